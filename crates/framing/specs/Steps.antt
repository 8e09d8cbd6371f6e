-- A stream byte by byte: how a decoder of frames moves on.
use Rattle.std.specs.Prelude.{ℕ, Bool, true, false, List, [], ◌∷◌, ◌++◌, length, Some, None, Ok, Err, Option, Result, ◌==◌, nat_lt}
use Rattle.message.specs.declared.faults.Fault.{Fault}
use Rattle.message.specs.declared.faults.Place.{Place}
use Rattle.message.specs.declared.faults.Refusal.{Refusal}
use Rattle.message.specs.declared.faults.Refusal.TheVariants.{BehindEnd, MetadataSize, Metadata, BodyLength}
use Rattle.message.specs.declared.headers.Facts.{Facts}
use Rattle.message.specs.declared.readings.Refused.{Refused}
use Rattle.message.specs.Faults.{placed}
use Rattle.framing.specs.Moves.{Moved, on, shows, refuses}
use Rattle.framing.specs.Frames.{Holds, Envelope, Frame, Shown, frame, end, behind, marks, opening, size_of, body_length, length_of}

-- where a decoder stands, with the bytes that it has gathered of a frame's opening, of its metadata or of its body
pub data Stand : Type 0 where
  header : Place → List ℕ → Stand
  metadata : Place → Bool → ℕ → List ℕ → Stand
  body : Place → Bool → List ℕ → Facts → ℕ → List ℕ → Stand
  ended : Place → Stand
  stopped : Fault → Stand

abbrev pub Move : Type 0
Move = Moved Stand Shown Fault

abbrev pub refuse : Refusal → Place → Move
refuse r p = refuses (placed r p) (stopped (placed r p))

-- an opening with its size
abbrev pub sized : Holds → Place → Bool → ℕ → Move
sized h p marked n = elim (n == 0) [
  | true ↦ shows (end p) (ended (behind p (opening marked)))
  | false ↦ elim (nat_lt h.metadata n) [
    | true ↦ refuse MetadataSize p
    | false ↦ on (metadata p marked n [])
  ]
]

-- an opening, whole or not
abbrev pub opened : Holds → Place → List ℕ → Move
opened h p got = elim (nat_lt (length got) (opening (marks got))) [
  | true ↦ on (header p got)
  | false ↦ sized h p (marks got) (size_of got)
]

-- a body, whole or not
abbrev pub filled : Place → Bool → List ℕ → Facts → ℕ → List ℕ → Move
filled p marked meta facts n got =
    let f : Frame = record { place = p; marked = marked; metadata = meta; facts = facts; body = got } in
    elim (length got == n) [
      | true ↦ shows (frame f) (header (behind p (length_of f)) [])
      | false ↦ on (body p marked meta facts n got)
    ]

abbrev pub bodied : Place → Bool → List ℕ → Facts → Option ℕ → Move
bodied p marked meta facts None = refuse BodyLength p
bodied p marked meta facts (Some n) = filled p marked meta facts n []

-- metadata that are whole
abbrev pub told : Holds → Place → Bool → List ℕ → Result Facts Refused → Move
told h p marked meta (Err x) = refuse Metadata p
told h p marked meta (Ok facts) = bodied p marked meta facts (body_length h facts)

-- metadata, whole or not
abbrev pub gathered : Holds → Envelope → Place → Bool → ℕ → List ℕ → Move
gathered h e p marked n got = elim (length got == n) [
  | true ↦ told h p marked got (e got)
  | false ↦ on (metadata p marked n got)
]

unfoldable pub step : Holds → Envelope → Stand → ℕ → Move
step h e (header p got) b = opened h p (got ++ b ∷ [])
step h e (metadata p marked n got) b = gathered h e p marked n (got ++ b ∷ [])
step h e (body p marked meta facts n got) b = filled p marked meta facts n (got ++ b ∷ [])
step h e (ended p) b = refuse BehindEnd p
step h e (stopped f) b = refuses f (stopped f)
