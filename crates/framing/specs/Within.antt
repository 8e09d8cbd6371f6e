-- What a decoder's own numbers keep to.
use Rattle.std.specs.Prelude.{ℕ, ◌+◌}
use Rattle.framing.specs.declared.state.DecoderState.{DecoderState}
use Rattle.framing.specs.declared.state.DecoderState.TheVariants.{Header, Message, Body, Finished, Stopped}

-- the size of the metadata
abbrev pub reach : DecoderState → ℕ
reach (Header start) = 0
reach (Message opening got) = opening.size
reach (Body head got) = head.opening.size
reach Finished = 0
reach (Stopped fault) = 0

-- one more than the bytes that are there of metadata
abbrev pub held : DecoderState → ℕ
held (Header start) = 0
held (Message opening got) = got + 1
held (Body head got) = 0
held Finished = 0
held (Stopped fault) = 0

-- the length of the body
abbrev pub spans : DecoderState → ℕ
spans (Header start) = 0
spans (Message opening got) = 0
spans (Body head got) = head.body
spans Finished = 0
spans (Stopped fault) = 0

-- one more than the bytes that are there of a body
abbrev pub fills : DecoderState → ℕ
fills (Header start) = 0
fills (Message opening got) = 0
fills (Body head got) = got + 1
fills Finished = 0
fills (Stopped fault) = 0
