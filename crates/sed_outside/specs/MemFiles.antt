-- What contracts see of files in memory.
use Rattle.std.specs.Prelude.{ℕ, List}
use Rattle.sed_outside.specs.declared.mem_files.MemFiles.{MemFiles}
use Rattle.sed_outside.specs.Failing.{Plan}
use Rattle.sed_outside.specs.Files.{Contents}
use Rattle.sed_outside.specs.Named.{contents_of, count_of}

-- The bytes of the file of each name.
abbrev pub contents_in : MemFiles → Contents
contents_in files = contents_of files.files.items

-- Which of its calls fail, reads and writes numbered together.
abbrev pub plan_of : MemFiles → Plan
plan_of files = files.calls

-- How many reads of each name failed, and how many writes.
abbrev pub failed_reads_of : MemFiles → List ℕ → ℕ
failed_reads_of files = count_of files.failed_reads.items

abbrev pub failed_writes_of : MemFiles → List ℕ → ℕ
failed_writes_of files = count_of files.failed_writes.items
