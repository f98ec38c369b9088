-- What a sink in memory shows: the bytes that it took, and its count of faults.
use Rattle.std.specs.Prelude.{ℕ, List, Option, Some}
use Rattle.hb_io.specs.declared.memory_sink.MemorySink.{MemorySink}

abbrev pub contents_of : MemorySink → Option (List ℕ)
contents_of sink = Some sink.bytes.items

abbrev pub faults_of : MemorySink → ℕ
faults_of sink = sink.calls.faults
