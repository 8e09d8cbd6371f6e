-- Runs of calls on one decoder, and what holds throughout each of them.
use Rattle.std.specs.Prelude.{◌≡◌, ℕ, ◌<◌, ◌≤◌, ◌⊎◌, List, [], ◌∷◌, ◌++◌, length, take, drop, Some, None, Ok, Err, Option, Result}
use Rattle.std.specs.Option.{option_map, option_to_list}
use Rattle.message.specs.declared.faults.Fault.{Fault}
use Rattle.message.specs.declared.faults.Refusal.TheVariants.{Lengths, Unfinished}
use Rattle.message.specs.Faults.{bare}
use Rattle.framing.specs.declared.events.Event.{Event}
use Rattle.framing.specs.declared.events.Event.TheVariants.{Frame as FrameEvent, End as EndEvent}
use Rattle.framing.specs.declared.events.Step.{Step}
use Rattle.framing.specs.declared.state.FrameDecoder.{FrameDecoder}
use Rattle.framing.specs.Frames.{Holds, Envelope, Shown, frame, end}
use Rattle.framing.specs.Steps.{header}
use Rattle.framing.specs.Streams.{Close, well, short, by, Stream, start, stream}
use Rattle.framing.specs.Views.{Own, stand_of, holds_of, Advances, Ends}

-- a call with its answer: a piece, with what the two holds then have; a piece with holds of other lengths; whether
-- the stream may stop
pub data Call : Type 0 where
  advances : List ℕ → Result Step Fault → List ℕ → List ℕ → Call
  advances_other : List ℕ → Result Step Fault → Call
  ends_at : Result (Unit {0}) Fault → Call

-- the calls, one after the other, each as its contract says; nothing else changes the decoder and its two holds
abbrev pub Runs : Envelope → FrameDecoder → List ℕ → List ℕ → List Call → Type 0
Runs e d m b [] = Unit {0}
Runs e d m b (advances p r m' b' ∷ cs) = (d' : FrameDecoder) × Advances e d m b p r d' m' b' × Runs e d' m' b' cs
Runs e d m b (advances_other p r ∷ cs) =
    (d' : FrameDecoder) × (o : List ℕ) × (q : List ℕ) × (o' : List ℕ) × (q' : List ℕ) × (Own d o q → ⊥) × Advances e d o q p r d' o' q' × Runs e d' m b cs
Runs e d m b (ends_at r ∷ cs) = Ends d r × Runs e d m b cs

-- the decoder gets these bytes, whatever the pieces: each piece is the front of what is left of them, all are used,
-- or a piece is refused
abbrev pub Gets : List ℕ → List Call → Type 0
Gets left [] = left ≡ []
Gets left (advances p (Ok s) m b ∷ cs) = (later : List ℕ) × (left ≡ p ++ later) × Gets (drop s.used left) cs
Gets left (advances p (Err x) m b ∷ cs) = (later : List ℕ) × (left ≡ p ++ later)
Gets left (advances_other p r ∷ cs) = Gets left cs
Gets left (ends_at r ∷ cs) = Gets left cs

-- an event, with the bytes that the two holds have then
abbrev pub seen : List ℕ → List ℕ → Event → Shown
seen m b (FrameEvent h) = frame (record { place = h.place; marked = h.opening.marked; metadata = take h.opening.size m; facts = h.facts; body = take h.body b })
seen m b (EndEvent p) = end p

-- what the calls showed, up to the first piece that is refused
abbrev pub shown_in : List Call → List Shown
shown_in [] = []
shown_in (advances p (Ok s) m b ∷ cs) = option_to_list (option_map (seen m b) s.event) ++ shown_in cs
shown_in (advances p (Err x) m b ∷ cs) = []
shown_in (advances_other p r ∷ cs) = shown_in cs
shown_in (ends_at r ∷ cs) = shown_in cs

-- the first refusal of a piece
abbrev pub refusal_in : List Call → Option Fault
refusal_in [] = None
refusal_in (advances p (Ok s) m b ∷ cs) = refusal_in cs
refusal_in (advances p (Err x) m b ∷ cs) = Some x
refusal_in (advances_other p r ∷ cs) = refusal_in cs
refusal_in (ends_at r ∷ cs) = refusal_in cs

-- it was asked whether the stream may stop once all bytes were used or one was refused, and r was the answer
abbrev pub Asked : List ℕ → Result (Unit {0}) Fault → List Call → Type 0
Asked left r [] = ⊥
Asked left r (advances p (Ok s) m b ∷ cs) = Asked (drop s.used left) r cs
Asked left r (advances p (Err x) m b ∷ cs) = Asked [] r cs
Asked left r (advances_other p q ∷ cs) = Asked left r cs
Asked left r (ends_at q ∷ cs) = ((left ≡ []) × (q ≡ r)) ⊎ Asked left r cs

-- after a refusal every piece and the end are answered by it
abbrev pub Stays : Fault → List Call → Type 0
Stays x [] = Unit {0}
Stays x (advances p r m b ∷ cs) = (r ≡ Err x) × Stays x cs
Stays x (advances_other p r ∷ cs) = Stays x cs
Stays x (ends_at r ∷ cs) = (r ≡ Err x) × Stays x cs

abbrev pub Stopped : List Call → Type 0
Stopped [] = Unit {0}
Stopped (advances p (Ok s) m b ∷ cs) = Stopped cs
Stopped (advances p (Err x) m b ∷ cs) = Stays x cs
Stopped (advances_other p r ∷ cs) = Stopped cs
Stopped (ends_at r ∷ cs) = Stopped cs

-- calls with holds of other lengths are refused
abbrev pub OtherRefused : List Call → Type 0
OtherRefused [] = Unit {0}
OtherRefused (advances p r m b ∷ cs) = OtherRefused cs
OtherRefused (advances_other p r ∷ cs) = (r ≡ Err (bare Lengths)) × OtherRefused cs
OtherRefused (ends_at r ∷ cs) = OtherRefused cs

abbrev pub refusal_of : Close → Option Fault
refusal_of well = None
refusal_of short = None
refusal_of (by f) = Some f

abbrev pub end_of : Close → Result (Unit {0}) Fault
end_of well = Ok tt
end_of short = Err (bare Unfinished)
end_of (by f) = Err f

-- the run shows what the stream of these bytes holds: its frames with their places, metadata and bodies, no more and
-- no fewer, its refusal, and its end
pub record Shows (s : Stream) (bytes : List ℕ) (cs : List Call) : Type 0 where
  pub frames : shown_in cs ≡ s.shown
  pub refusal : refusal_in cs ≡ refusal_of s.close
  pub finish : (r : Result (Unit {0}) Fault) → Asked bytes r cs → r ≡ end_of s.close
  pub stopped : Stopped cs
  pub other : OtherRefused cs

-- a decoder before the first byte of its stream
pub record Begins (h : Holds) (d : FrameDecoder) : Type 0 where
  pub holds : holds_of d ≡ h
  pub stand : (m b : List ℕ) → stand_of d m b ≡ header start []

-- the frames of a stream are those of its joined bytes, whatever the pieces, for every reading
abbrev pub Lawful : Holds → FrameDecoder → Type 0
Lawful h d =
    (e : Envelope) (m b : List ℕ) → length m ≡ h.metadata → length b ≡ h.body →
    (cs : List Call) → Runs e d m b cs → (bytes : List ℕ) → Gets bytes cs → Shows (stream h e bytes) bytes cs

-- what is answered for holds of such lengths: metadata of 1 to 1,048,576 bytes, bodies of 0 to 16,777,216
pub record Fits (h : Holds) : Type 0 where
  pub some : 0 < h.metadata
  pub metadata : h.metadata ≤ 1048576
  pub body : h.body ≤ 16777216

abbrev pub Opens : Holds → Result FrameDecoder Fault → Type 0
Opens h (Ok d) = Fits h × Begins h d × Lawful h d
Opens h (Err x) = (x ≡ bare Lengths) × (Fits h → ⊥)
