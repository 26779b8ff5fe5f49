-- What the sink in memory stands for.
use Rattle.hk_io.specs.Memory.{SinkState}
use Rattle.hk_io.specs.declared.mem_sink.MemSink.{MemSink}

abbrev pub sink_state : MemSink → SinkState
sink_state s = record { text = s.text.items; room = s.room; failing = s.failing; calls = s.calls; faults = s.faults }
