-- The frames of a whole stream, by its bytes alone: no pieces, no states.
use Rattle.std.specs.Prelude.{ℕ, zero, suc, Bool, true, false, List, [], ◌∷◌, length, take, drop, Some, None, Ok, Err, Option, Result, ◌==◌, nat_lt}
use Rattle.message.specs.declared.faults.Fault.{Fault}
use Rattle.message.specs.declared.faults.Place.{Place}
use Rattle.message.specs.declared.faults.Refusal.{Refusal}
use Rattle.message.specs.declared.faults.Refusal.TheVariants.{BehindEnd, MetadataSize, Metadata, BodyLength}
use Rattle.message.specs.declared.headers.Facts.{Facts}
use Rattle.message.specs.declared.readings.Refused.{Refused}
use Rattle.message.specs.Faults.{placed}
use Rattle.framing.specs.Frames.{Holds, Envelope, Frame, Shown, frame, end, behind, marks, opening, size_of, body_length, length_of}

-- what bytes begin with: a frame that is cut short; the end mark; one that is refused; a whole frame
pub data First : Type 0 where
  cut : First
  ends : Bool → First
  not : Refusal → First
  whole : Frame → First

abbrev pub with_body : Place → Bool → List ℕ → Facts → List ℕ → Option ℕ → First
with_body p marked meta facts rest None = not BodyLength
with_body p marked meta facts rest (Some n) = elim (nat_lt (length rest) n) [
  | true ↦ cut
  | false ↦ whole (record { place = p; marked = marked; metadata = meta; facts = facts; body = take n rest })
]

abbrev pub with_facts : Holds → Place → Bool → List ℕ → List ℕ → Result Facts Refused → First
with_facts h p marked meta rest (Err x) = not Metadata
with_facts h p marked meta rest (Ok facts) = with_body p marked meta facts rest (body_length h facts)

-- behind the opening: so many bytes of metadata, then the body
abbrev pub with_size : Holds → Envelope → Place → Bool → ℕ → List ℕ → First
with_size h e p marked n rest = elim (n == 0) [
  | true ↦ ends marked
  | false ↦ elim (nat_lt h.metadata n) [
    | true ↦ not MetadataSize
    | false ↦ elim (nat_lt (length rest) n) [
      | true ↦ cut
      | false ↦ with_facts h p marked (take n rest) (drop n rest) (e (take n rest))
    ]
  ]
]

unfoldable pub first : Holds → Envelope → Place → List ℕ → First
first h e p bs = elim (nat_lt (length bs) (opening (marks bs))) [
  | true ↦ cut
  | false ↦ with_size h e p (marks bs) (size_of bs) (drop (opening (marks bs)) bs)
]

-- how a stream closes: between frames or behind its end mark; inside a frame; by a refusal
pub data Close : Type 0 where
  well : Close
  short : Close
  by : Fault → Close

pub record Stream : Type 0 where
  pub shown : List Shown
  pub close : Close

abbrev pub none : Close → Stream
none c = record { shown = []; close = c }

abbrev pub also : Shown → Stream → Stream
also x s = record { shown = x ∷ s.shown; close = s.close }

-- behind the end mark no byte may come
abbrev pub after_end : Place → List ℕ → Stream
after_end p [] = none well
after_end p (b ∷ bs) = none (by (placed BehindEnd p))

abbrev pub followed : (Place → List ℕ → Stream) → Place → List ℕ → First → Stream
followed later p bs cut = none short
followed later p bs (ends marked) = also (end p) (after_end (behind p (opening marked)) (drop (opening marked) bs))
followed later p bs (not r) = none (by (placed r p))
followed later p bs (whole f) = also (frame f) (later (behind p (length_of f)) (drop (length_of f) bs))

-- frame after frame from a place on; there are fewer of them than `most`
unfoldable pub frames : Holds → Envelope → ℕ → Place → List ℕ → Stream
frames h e zero p bs = none well
frames h e (suc most) p [] = none well
frames h e (suc most) p (b ∷ bs) = followed (frames h e most) p (b ∷ bs) (first h e p (b ∷ bs))

abbrev pub start : Place
start = record { message = 0; position = 0 }

-- what a stream of these bytes holds, whatever the pieces in which it comes
unfoldable pub stream : Holds → Envelope → List ℕ → Stream
stream h e bs = frames h e (suc (length bs)) start bs
