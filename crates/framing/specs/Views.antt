-- What a decoder and its two holds stand for, and what each of its calls does.
use Rattle.std.specs.Prelude.{◌≡◌, ℕ, List, length, take, Err, Result}
use Rattle.message.specs.declared.faults.Fault.{Fault}
use Rattle.message.specs.declared.faults.Place.{Place}
use Rattle.message.specs.declared.faults.Refusal.TheVariants.{Lengths}
use Rattle.message.specs.Faults.{bare}
use Rattle.framing.specs.declared.events.Step.{Step}
use Rattle.framing.specs.declared.state.DecoderState.{DecoderState}
use Rattle.framing.specs.declared.state.DecoderState.TheVariants.{Header, Message, Body, Finished, Stopped}
use Rattle.framing.specs.declared.state.FrameDecoder.{FrameDecoder}
use Rattle.framing.specs.Frames.{Holds, Envelope, Shown}
use Rattle.framing.specs.Moves.{Went}
use Rattle.framing.specs.Steps.{Stand, header, metadata, body, ended, stopped}
use Rattle.framing.specs.Calls.{advanced, answered, standing, Held, end_at}

-- the bytes gathered are the first of the opening's own bytes, of the metadata's hold and of the body's
abbrev pub state_stand : DecoderState → Place → List ℕ → List ℕ → Stand
state_stand (Header start) p m b = header p (take start.got start.bytes)
state_stand (Message opening got) p m b = metadata p opening.marked opening.size (take got m)
state_stand (Body head got) p m b = body head.place head.opening.marked (take head.opening.size m) head.facts head.body (take got b)
state_stand Finished p m b = ended p
state_stand (Stopped f) p m b = stopped f

abbrev pub stand_of : FrameDecoder → List ℕ → List ℕ → Stand
stand_of d m b = state_stand d.state d.place m b

abbrev pub holds_of : FrameDecoder → Holds
holds_of d = record { metadata = d.metadata; body = d.body }

-- the two holds are as long as they were at first
abbrev pub Own : FrameDecoder → List ℕ → List ℕ → Type 0
Own d m b = (length m ≡ d.metadata) × (length b ≡ d.body)

-- what came of a piece: the answer, where the decoder then stands, and what its holds have
pub record Came (piece : List ℕ) (w : Went Stand Shown Fault) (d : FrameDecoder) (r : Result Step Fault) (d' : FrameDecoder) (m' b' : List ℕ) : Type 0 where
  pub answer : r ≡ answered piece w
  pub stand : stand_of d' m' b' ≡ standing w
  pub held : Held w m' b'
  pub holds : holds_of d' ≡ holds_of d

-- one piece; holds of other lengths are refused, and nothing changes
pub record Advances (e : Envelope) (d : FrameDecoder) (m b piece : List ℕ) (r : Result Step Fault) (d' : FrameDecoder) (m' b' : List ℕ) : Type 0 where
  pub own : Own d m b → Came piece (advanced (holds_of d) e (stand_of d m b) piece) d r d' m' b'
  pub other : (Own d m b → ⊥) → (r ≡ Err (bare Lengths)) × (d' ≡ d) × (m' ≡ m) × (b' ≡ b)
  pub metadata_length : length m' ≡ length m
  pub body_length : length b' ≡ length b

pub record Ends (d : FrameDecoder) (r : Result (Unit {0}) Fault) : Type 0 where
  pub says : (m b : List ℕ) → r ≡ end_at (stand_of d m b)
