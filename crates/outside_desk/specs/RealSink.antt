-- What a sink of the machine shows: its writer, and its count.
use Rattle.std.specs.Prelude.{ℕ}
use Rattle.outside_desk.specs.declared.real_sink.RealSink.{RealSink}

abbrev pub real_sink_writer : {W : Type 0} → RealSink W → W
real_sink_writer sink = sink.writer

abbrev pub real_sink_faults : {W : Type 0} → RealSink W → ℕ
real_sink_faults sink = sink.faults
