-- The parts of a decoder, way by way.
use Rattle.std.proofs.Common.{◌≡◌, ℕ, ◌+◌, ◌-◌, ◌<◌, ◌≤◌, cond, leb, List, [], length, take, ℤ, pos, negsuc, Some, None, Ok, Option, Result, sym, refl, ap, ◌∙◌, subst, inl, inr, arith}
use Rattle.std.proofs.lemmas.List.{length-take-le}
use Rattle.std.proofs.lemmas.Bool.{cases_lt, le-leb, lt-leb, cond-true, cond-false}
use Rattle.std.specs.Option.{option_map}
use Rattle.little.specs.Numbers.{number_inside, number_outside}
use Rattle.message.specs.declared.faults.Fault.{Fault}
use Rattle.message.specs.declared.faults.Place.{Place}
use Rattle.framing.specs.declared.events.Event.{Event}
use Rattle.framing.specs.declared.events.Event.TheVariants.{Frame as FrameEvent, End as EndEvent}
use Rattle.framing.specs.declared.events.FrameHead.{FrameHead}
use Rattle.framing.specs.declared.openings.Opening.{Opening}
use Rattle.framing.specs.declared.openings.OpeningBytes.{OpeningBytes}
use Rattle.framing.specs.declared.state.DecoderState.TheVariants.{Header, Finished}
use Rattle.framing.specs.declared.state.FrameDecoder.{FrameDecoder}
use Rattle.framing.specs.Moves.{shows}
use Rattle.framing.specs.Frames.{Holds, Envelope, frame, end, behind, marks, opening, size_of, body_length, at_most, length_of}
use Rattle.framing.specs.Steps.{header, ended, sized, opened, filled, told, bodied, gathered}
use Rattle.framing.specs.Views.{stand_of, holds_of}
use Rattle.framing.specs.Turns.{opening_in, Kept, Moves, Sized, Opened, Filled, Gathered}
use Rattle.framing.proofs.Fills.{Begun, opening_bounds, opening_whole}
use Rattle.framing.proofs.Ways.{sized_end, gathered_all, filled_all, framed}
use Rattle.framing.proofs.Stands.{stand_at}

-- the end mark
pub at_end : (d d' : FrameDecoder) (o : Opening) → o.size ≡ 0 → Kept d d' → d'.state ≡ Finished → d'.place ≡ behind d.place (opening o.marked) → Sized o d (Ok (Some (EndEvent d.place))) d'
at_end d d' o z kept is place m b = record {
  by = (end d.place, sized_end (holds_of d) d.place o.marked o.size z ∙ ap (λ p. shows (end d.place) (ended p)) (sym place) ∙ ap (shows (end d.place)) (sym (stand_at d' m b Finished is)), refl, tt);
  kept = kept;
}

-- an opening by what is found in its bytes
module _ (bs : List ℕ) where
  with_size : ℕ → Opening
  with_size n = record { marked = marks bs; size = n }

  found : opening (marks bs) ≤ length bs → opening_in bs ≡ Some (with_size (size_of bs))
  unfolding with_size
  found k =
      let b = opening_bounds (marks bs) in
      ap (option_map with_size) (number_inside 4 bs (opening (marks bs) - 4) (omega (arith, b.0)))

  not_found : length bs < opening (marks bs) → opening_in bs ≡ None
  unfolding with_size
  not_found k =
      let b = opening_bounds (marks bs) in
      ap (option_map with_size) (number_outside 4 bs (opening (marks bs) - 4) (omega (arith, b.0)))

  pub not_whole : opening_in bs ≡ None → Begun bs
  not_whole none = elim (cases_lt (length bs) (opening (marks bs))) [
    | inl k ↦ record { more = k }
    | inr k ↦ let e = found k in cc
  ]

  pub whole : (h : Holds) (p : Place) (o : Opening) → opening_in bs ≡ Some o → opened h p bs ≡ sized h p o.marked o.size
  unfolding with_size
  whole h p o some = elim (cases_lt (length bs) (opening (marks bs))) [
    | inl k ↦ let e = not_found k in cc
    | inr k ↦
        let e = found k in
        let s : with_size (size_of bs) ≡ o = cc in
        opening_whole h p bs k ∙ ap (λ q. sized h p q.marked q.size) s
  ]

pub opening_sized : (d d' : FrameDecoder) (bs : List ℕ) (o : Opening) (r : Result (Option Event) Fault) → opening_in bs ≡ Some o → Sized o d r d' → Opened bs d r d'
opening_sized d d' bs o r e s m b = subst (λ v. Moves v d r d' m b) (sym (whole bs (holds_of d) d.place o e)) (s m b)

-- a body that is whole
pub frame_whole : (d d' : FrameDecoder) (head : FrameHead) (got : ℕ) → got ≡ head.body → Kept d d' → (s : OpeningBytes) → s.got ≡ 0 → d'.state ≡ Header s → d'.place ≡ behind head.place (opening head.opening.marked + (head.opening.size + head.body)) → Filled head got d (Some (FrameEvent head)) d'
frame_whole d d' head got full kept s none is place m b fits within =
    let p = head.place in
    let o = head.opening in
    let f = framed p o.marked (take o.size m) head.facts head.body (take got b) in
    let l : length (take o.size m) ≡ o.size = length-take-le o.size m fits in
    let k : length (take got b) ≡ head.body = length-take-le got b (omega arith) ∙ full in
    let all : opening o.marked + (o.size + head.body) ≡ length_of f = omega arith in
    let to : header (behind p (length_of f)) [] ≡ stand_of d' m b = ap (λ j. header (behind p j) []) (sym all) ∙ ap (λ q. header q []) (sym place) ∙ ap (λ j. header d'.place (take j s.bytes)) (sym none) ∙ sym (stand_at d' m b (Header s) is) in
    record {
      by = (
        frame f,
        filled_all p o.marked (take o.size m) head.facts head.body (take got b) k ∙ ap (shows (frame f)) to,
        ap (λ j. FrameEvent (record { place = p; opening = record { marked = o.marked; size = j }; facts = head.facts; body = head.body })) (sym l) ∙ ap (λ j. FrameEvent (record { place = p; opening = record { marked = o.marked; size = length (take o.size m) }; facts = head.facts; body = j })) (sym k),
        (ap (λ j. take j m) l, ap (λ j. take j b) (k ∙ sym full)),
      );
      kept = kept;
    }

-- metadata that are whole, with a body to come
at_most_lem : (most n : ℕ) (z : ℤ) → at_most most z ≡ Some n → n ≤ most
at_most_lem most n (pos k) e = elim (cases_lt most k) [
  | inl l ↦ let c : cond (leb k most) (Some k) None ≡ None = cond-false (leb k most) (Some k) None (lt-leb k most l) in cc
  | inr l ↦ let c : cond (leb k most) (Some k) None ≡ Some k = cond-true (leb k most) (Some k) None (le-leb k most l) in let d : n ≡ k = cc in omega arith
]
at_most_lem most n (negsuc k) e = cc

pub metadata_whole : (e : Envelope) (d d' : FrameDecoder) (m : List ℕ) (head : FrameHead) (got : ℕ) (o : Option Event) → length m ≡ d.metadata → head.opening.size ≤ d.metadata → got ≡ head.opening.size → head.place ≡ d.place → e (take got m) ≡ Ok head.facts → body_length (holds_of d) head.facts ≡ Some head.body → Filled head 0 d o d' → Gathered e m head.opening got d (Ok o) d'
metadata_whole e d d' m head got o own fits full here told-ok some moved b long =
    let h = holds_of d in
    let p = d.place in
    let marked = head.opening.marked in
    let size = head.opening.size in
    let l : length (take got m) ≡ size = length-take-le got m (omega arith) ∙ full in
    let k = at_most_lem d.body head.body head.facts.body some in
    let v : gathered h e p marked size (take got m) ≡ filled head.place marked (take size m) head.facts head.body [] =
    gathered_all h e p marked size (take got m) l ∙ ap (told h p marked (take got m)) told-ok ∙ ap (bodied p marked (take got m) head.facts) some
    ∙ ap (λ j. filled p marked (take j m) head.facts head.body []) full ∙ ap (λ q. filled q marked (take size m) head.facts head.body []) (sym here) in
    subst (λ w. Moves w d (Ok o) d' m b) (sym v) (moved m b (omega arith) (omega arith))
