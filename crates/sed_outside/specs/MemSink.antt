-- What contracts see of a sink in memory.
use Rattle.std.specs.Prelude.{ℕ}
use Rattle.sed_outside.specs.declared.mem_sink.MemSink.{MemSink}
use Rattle.sed_outside.specs.Bounded.{Bounded}
use Rattle.sed_outside.specs.Failing.{Plan}

-- What was put, and the room for it.
abbrev pub held_in : MemSink → Bounded
held_in sink = sink.held

-- Which of its puts fail.
abbrev pub plan_of : MemSink → Plan
plan_of sink = sink.calls

-- How many puts failed.
abbrev pub faults_of : MemSink → ℕ
faults_of sink = sink.faults
