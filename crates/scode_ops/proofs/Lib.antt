pub mod ByNumber
pub mod CodeLemmas
pub mod OperandLemmas
pub mod FormLemmas
pub mod DecodingLemmas
