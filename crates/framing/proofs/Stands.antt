-- Where a decoder stands, by its fields.
use Rattle.std.proofs.Common.{◌≡◌, ℕ, ◌<◌, List, [], ◌∷◌, length, take, Err, sym, refl, ap, ◌∙◌, arith}
use Rattle.message.specs.declared.faults.Fault.{Fault}
use Rattle.message.specs.declared.faults.Place.{Place}
use Rattle.message.specs.declared.faults.Refusal.TheVariants.{Unfinished}
use Rattle.message.specs.Faults.{bare}
use Rattle.framing.specs.declared.openings.OpeningBytes.{OpeningBytes}
use Rattle.framing.specs.declared.state.DecoderState.{DecoderState}
use Rattle.framing.specs.declared.state.DecoderState.TheVariants.{Header, Stopped}
use Rattle.framing.specs.declared.state.FrameDecoder.{FrameDecoder}
use Rattle.framing.specs.Steps.{header, stopped}
use Rattle.framing.specs.Streams.{start}
use Rattle.framing.specs.Calls.{between_frames, end_at}
use Rattle.framing.specs.Views.{state_stand, stand_of, holds_of, Ends}
use Rattle.framing.specs.Turns.{Kept}

module _ (d : FrameDecoder) (m b : List ℕ) where
  pub stand_at : (s : DecoderState) → d.state ≡ s → stand_of d m b ≡ state_stand s d.place m b
  stand_at s e = ap (λ t. state_stand t d.place m b) e

  pub stand_stopped : (f : Fault) → d.state ≡ Stopped f → stand_of d m b ≡ stopped f
  stand_stopped f e = stand_at (Stopped f) e

-- the lengths of the holds, as one
pub holds_kept : (d d' : FrameDecoder) → Kept d d' → holds_of d' ≡ holds_of d
holds_kept d d' k = ap (λ n. record { metadata = n; body = d'.body }) k.metadata ∙ ap (λ n. record { metadata = d.metadata; body = n }) k.body

-- some of an opening is there, or nothing
between : (got : List ℕ) → 0 < length got → between_frames got ≡ Err (bare Unfinished)
between [] some = absurd (omega arith)
between (x ∷ got) some = refl

pub inside_opening : (d : FrameDecoder) (s : OpeningBytes) → d.state ≡ Header s → 0 < length (take s.got s.bytes) → (f : Fault) → f ≡ bare Unfinished → Ends d (Err f)
inside_opening d s is some f e = record { says = λ m b. ap Err e ∙ sym (ap end_at (stand_at d m b (Header s) is) ∙ between (take s.got s.bytes) some) }

-- before the first byte
pub at_start : (p : Place) (s : OpeningBytes) → p.message ≡ 0 → p.position ≡ 0 → s.got ≡ 0 → header p (take s.got s.bytes) ≡ header start []
at_start p s a b none = ap (λ n. header p (take n s.bytes)) none ∙ ap (λ n. header (record { message = n; position = p.position }) []) a ∙ ap (λ n. header (record { message = 0; position = n }) []) b
