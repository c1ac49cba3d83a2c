pub mod Tree
pub mod ExpressionTree
pub mod ExpressionFalls
pub mod Words
pub mod StatementTree
pub mod StatementFalls
