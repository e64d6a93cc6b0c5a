-- The pending bytes of a writer of steps.
use Rattle.sat_base.specs.declared.steps.writer.StepWriter.{StepWriter}
use Rattle.sat_base.specs.device.Waiting.{waiting_in}
use Rattle.sat_base.specs.device.Device.{Writer}
use Rattle.sat_base.specs.device.Sink.{Sink, sink_of}

-- the sink of a writer of steps: the writer of its bytes, and the pending bytes
abbrev pub steps_sink : {W : Type 0} → (W → Writer) → StepWriter W → Sink
steps_sink seen s = sink_of seen waiting_in s.output
