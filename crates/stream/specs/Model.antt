-- The code's event model in the words of document 01.
use Rattle.paper.specs.Streams.{Stream}
use Rattle.stream.specs.declared.model.EventModel.{EventModel}

-- The stream with an event model's period and jitter.
abbrev pub model_of : EventModel → Stream
model_of m = record { P = m.period.0; J = m.jitter.0 }
