-- What the parts of a decoder do: an opening, metadata, a body, one turn.
use Rattle.std.specs.Prelude.{◌≡◌, ℕ, ◌+◌, ◌-◌, ◌<◌, ◌≤◌, min, List, [], ◌++◌, length, take, drop, Some, None, Ok, Err, Option, Result}
use Rattle.std.specs.Option.{option_map}
use Rattle.little.specs.Numbers.{number_at}
use Rattle.message.specs.declared.faults.Fault.{Fault}
use Rattle.message.specs.declared.faults.Refusal.{Refusal}
use Rattle.message.specs.Faults.{placed}
use Rattle.framing.specs.declared.events.Event.{Event}
use Rattle.framing.specs.declared.events.FrameHead.{FrameHead}
use Rattle.framing.specs.declared.events.Step.{Step}
use Rattle.framing.specs.declared.openings.Opening.{Opening}
use Rattle.framing.specs.declared.state.DecoderState.TheVariants.{Stopped}
use Rattle.framing.specs.declared.state.FrameDecoder.{FrameDecoder}
use Rattle.framing.specs.Moves.{on, shows, refuses, quiet, showed, refused}
use Rattle.framing.specs.Frames.{Holds, Envelope, Shown, marks, opening}
use Rattle.framing.specs.Steps.{Stand, Move, sized, opened, filled, gathered}
use Rattle.framing.specs.Calls.{advanced, event_of, InHolds}
use Rattle.framing.specs.Views.{stand_of, holds_of}

-- the opening that bytes begin with: whether it has the marker, and the size, where that is there whole
abbrev pub opening_in : List ℕ → Option Opening
opening_in bs = option_map (λ n. record { marked = marks bs; size = n }) (number_at 4 bs (opening (marks bs) - 4))

-- bytes of the rest go into a hold, behind those that are there, until it has `most`
pub record Fills (m : List ℕ) (got most : ℕ) (rest : List ℕ) (n : ℕ) (m' : List ℕ) : Type 0 where
  pub count : n ≡ min (most - got) (length rest)
  pub front : take (got + n) m' ≡ take got m ++ take n rest

-- the holds keep their lengths
pub record Kept (d d' : FrameDecoder) : Type 0 where
  pub metadata : d'.metadata ≡ d.metadata
  pub body : d'.body ≡ d.body

-- the decoder is stopped by a refusal of the frame
pub record Stops (r : Refusal) (d : FrameDecoder) (f : Fault) (d' : FrameDecoder) : Type 0 where
  pub value : f ≡ placed r d.place
  pub state : d'.state ≡ Stopped f
  pub kept : Kept d d'

-- what a move shows, if anything
abbrev pub ShownBy : Move → Option Event → Stand → List ℕ → List ℕ → Type 0
ShownBy v None s m b = v ≡ on s
ShownBy v (Some x) s m b = (y : Shown) × (v ≡ shows y s) × (x ≡ event_of y) × InHolds y m b

abbrev pub MovedBy : Move → Result (Option Event) Fault → Stand → List ℕ → List ℕ → Type 0
MovedBy v (Ok o) s m b = ShownBy v o s m b
MovedBy v (Err f) s m b = v ≡ refuses f s

-- a move on, where the holds then have these bytes
pub record Moves (v : Move) (d : FrameDecoder) (r : Result (Option Event) Fault) (d' : FrameDecoder) (m b : List ℕ) : Type 0 where
  pub by : MovedBy v r (stand_of d' m b) m b
  pub kept : Kept d d'

-- an opening that is whole, and its bytes, whatever the holds have
abbrev pub Sized : Opening → FrameDecoder → Result (Option Event) Fault → FrameDecoder → Type 0
Sized o d r d' = (m b : List ℕ) → Moves (sized (holds_of d) d.place o.marked o.size) d r d' m b

abbrev pub Opened : List ℕ → FrameDecoder → Result (Option Event) Fault → FrameDecoder → Type 0
Opened got d r d' = (m b : List ℕ) → Moves (opened (holds_of d) d.place got) d r d' m b

-- the first bytes of the metadata's hold, whatever the other has
abbrev pub Gathered : Envelope → List ℕ → Opening → ℕ → FrameDecoder → Result (Option Event) Fault → FrameDecoder → Type 0
Gathered e m o got d r d' = (b : List ℕ) → length b ≡ d.body → Moves (gathered (holds_of d) e d.place o.marked o.size (take got m)) d r d' m b

-- the first bytes of the body's hold
abbrev pub Filled : FrameHead → ℕ → FrameDecoder → Option Event → FrameDecoder → Type 0
Filled head got d o d' =
    (m b : List ℕ) → head.opening.size ≤ length m → head.body ≤ length b → Moves (filled head.place head.opening.marked (take head.opening.size m) head.facts head.body (take got b)) d (Ok o) d' m b

-- one turn: so many bytes of the rest act, and the others go on from there
abbrev pub TurnOn : Holds → Envelope → Stand → List ℕ → ℕ → Option Event → Stand → List ℕ → List ℕ → Type 0
TurnOn h e s rest used None s' m b = (advanced h e s rest ≡ advanced h e s' (drop used rest)) × (advanced h e s' [] ≡ quiet s')
TurnOn h e s rest used (Some x) s' m b = (y : Shown) × (advanced h e s rest ≡ showed y s' (drop used rest)) × (x ≡ event_of y) × InHolds y m b

abbrev pub TurnBy : Holds → Envelope → Stand → List ℕ → Result Step Fault → Stand → List ℕ → List ℕ → Type 0
TurnBy h e s rest (Ok t) s' m b = (t.used ≤ length rest) × (0 < length rest → 0 < t.used) × TurnOn h e s rest t.used t.event s' m b
TurnBy h e s rest (Err f) s' m b = advanced h e s rest ≡ refused f s'

pub record Turns (e : Envelope) (d : FrameDecoder) (m b rest : List ℕ) (r : Result Step Fault) (d' : FrameDecoder) (m' b' : List ℕ) : Type 0 where
  pub by : TurnBy (holds_of d) e (stand_of d m b) rest r (stand_of d' m' b') m' b'
  pub kept : Kept d d'
