-- A frame is its parts.
use Rattle.std.proofs.Common.{◌≡◌, ℕ, ◌+◌, ◌<◌, ◌≤◌, Bool, true, false, eqb, ltb, List, ◌++◌, length, take, drop, Some, None, Ok, Err, Option, Result, sym, refl, ap, ◌∙◌, subst, arith, length-append, take-append-drop}
use Rattle.std.proofs.lemmas.List.{take_at, drop_at, drop-drop, length-take-le}
use Rattle.std.proofs.lemmas.Bool.{eqb-false, ltb-false}
use Rattle.message.specs.declared.faults.Place.{Place}
use Rattle.message.specs.declared.faults.Refusal.TheVariants.{MetadataSize}
use Rattle.message.specs.declared.headers.Facts.{Facts}
use Rattle.message.specs.declared.readings.Refused.{Refused}
use Rattle.framing.specs.Frames.{Holds, Envelope, Frame, marks, opening, size_of, body_length, length_of}
use Rattle.framing.specs.Streams.{First, cut, ends, not, whole, with_body, with_facts, with_size, first}
use Rattle.framing.specs.Parts.{Begins, Exactly}
use Rattle.framing.proofs.Fills.{marks_front, opening_bounds, size_front, front_long, front_marks, front_size}
use Rattle.framing.proofs.Ways.{body_whole, size_fits, first_sized}

-- where a test would lead to no whole frame, it was false
passed : (b : Bool) (x y : First) (f : Frame) → (x ≡ whole f → ⊥) → elim b [ true ↦ x | false ↦ y ] ≡ whole f → (b ≡ false) × (y ≡ whole f)
passed true x y f k e = absurd (k e)
passed false x y f k e = (refl, e)

-- the body and the facts of a whole frame
body_of : (p : Place) (m : Bool) (meta : List ℕ) (facts : Facts) (rest : List ℕ) (o : Option ℕ) (f : Frame) → with_body p m meta facts rest o ≡ whole f → (n : ℕ) × (o ≡ Some n) × (n ≤ length rest) × (record { place = p; marked = m; metadata = meta; facts = facts; body = take n rest } ≡ f)
body_of p m meta facts rest None f e = cc
body_of p m meta facts rest (Some n) f e =
    let q = passed (ltb (length rest) n) cut _ f (λ d. cc) e in
    (n, refl, ltb-false (length rest) n q.0, same _ f q.1) where
      same : (g f : Frame) → whole g ≡ whole f → g ≡ f
      same g f e = cc

facts_of_lem : (h : Holds) (p : Place) (m : Bool) (meta rest : List ℕ) (r : Result Facts Refused) (f : Frame) → with_facts h p m meta rest r ≡ whole f → (facts : Facts) × (r ≡ Ok facts) × (with_body p m meta facts rest (body_length h facts) ≡ whole f)
facts_of_lem h p m meta rest (Err x) f e = cc
facts_of_lem h p m meta rest (Ok facts) f e = (facts, refl, e)

module _ (h : Holds) (e : Envelope) (p : Place) (bs : List ℕ) where
  -- the opening, the metadata and the body by their places
  abbrev k : ℕ
  k = opening (marks bs)

  abbrev behind_opening : List ℕ
  behind_opening = drop k bs

  abbrev made : ℕ → ℕ → Facts → Frame
  made n m facts = record { place = p; marked = marks bs; metadata = take n behind_opening; facts = facts; body = take m (drop n behind_opening) }

  split : (n m : ℕ) (facts : Facts) → n ≤ length behind_opening → m ≤ length (drop n behind_opening) → bs ≡ take k bs ++ (take n behind_opening ++ (take m (drop n behind_opening) ++ drop (length_of (made n m facts)) bs))
  split n m facts a b =
      let total : length_of (made n m facts) ≡ k + (n + m) = let i = length-take-le n behind_opening a in let j = length-take-le m (drop n behind_opening) b in omega (arith, i, j) in
      let rest : drop m (drop n behind_opening) ≡ drop (length_of (made n m facts)) bs = drop-drop m n behind_opening ∙ drop-drop (n + m) k bs ∙ ap (λ j. drop j bs) (sym total) in
      sym (take-append-drop k bs)
      ∙ ap (λ l. take k bs ++ l) (sym (take-append-drop n behind_opening) ∙ ap (λ l. take n behind_opening ++ l) (sym (take-append-drop m (drop n behind_opening)) ∙ ap (λ l. take m (drop n behind_opening) ++ l) rest))

  parts_of_lem : (f : Frame) → first h e p bs ≡ whole f → (f.place ≡ p) × Begins h e f bs (drop (length_of f) bs)
  unfolding first
  parts_of_lem f d =
      let q₁ = passed (ltb (length bs) k) cut _ f (λ d. cc) d in
      let q₂ = passed (eqb (size_of bs) 0) (ends (marks bs)) _ f (λ d. cc) q₁.1 in
      let q₃ = passed (ltb h.metadata (size_of bs)) (not MetadataSize) _ f (λ d. cc) q₂.1 in
      let q₄ = passed (ltb (length behind_opening) (size_of bs)) cut _ f (λ d. cc) q₃.1 in
      let n = size_of bs in
      let told = facts_of_lem h p (marks bs) (take n behind_opening) (drop n behind_opening) (e (take n behind_opening)) f q₄.1 in
      let body = body_of p (marks bs) (take n behind_opening) told.0 (drop n behind_opening) (body_length h told.0) f told.2 in
      let room : k ≤ length bs = ltb-false (length bs) k q₁.0 in
      let some : 0 < n = let z = eqb-false n 0 q₂.0 in omega arith in
      let fits : n ≤ h.metadata = ltb-false h.metadata n q₃.0 in
      let there : n ≤ length behind_opening = ltb-false (length behind_opening) n q₄.0 in
      let long = length-take-le n behind_opening there in
      let g = made n body.0 told.0 in
      let begins : Begins h e g bs (drop (length_of g) bs) = record {
        front = take k bs;
        joined = split n body.0 told.0 there body.2;
        long = front_long bs k refl room;
        mark = front_marks bs k refl room;
        size = front_size bs k refl room ∙ sym long;
        some = omega (arith, long);
        fits = omega (arith, long);
        told = told.1;
        body = body.1 ∙ ap Some (sym (length-take-le body.0 (drop n behind_opening) body.2));
      } in
      subst (λ x. (x.place ≡ p) × Begins h e x bs (drop (length_of x) bs)) body.3 (refl, begins)

-- and back: bytes that begin with a frame have it as their first
module _ (h : Holds) (e : Envelope) (f : Frame) (bs rest : List ℕ) (b : Begins h e f bs rest) where
  abbrev later : List ℕ
  later = f.metadata ++ (f.body ++ rest)

  marked : marks bs ≡ f.marked
  marked = ap marks b.joined ∙ marks_front b.front later (let l = opening_bounds f.marked in omega (arith, b.long)) ∙ b.mark

  sized : size_of bs ≡ length f.metadata
  sized =
      let fits : opening (marks b.front) ≤ length b.front = subst (λ m. opening m ≤ length b.front) (sym b.mark) (omega (arith, b.long)) in
      ap size_of b.joined ∙ size_front b.front later fits ∙ b.size

  opens : opening (marks bs) ≡ length b.front
  opens = ap opening marked ∙ sym b.long

  behind : drop (opening (marks bs)) bs ≡ later
  behind = ap (λ n. drop n bs) opens ∙ ap (drop (length b.front)) b.joined ∙ drop_at b.front later (length b.front) refl

  room : opening (marks bs) ≤ length bs
  room = let l = ap length b.joined ∙ length-append b.front later in omega (arith, l, opens)

  found : first h e f.place bs ≡ whole f
  found =
      let n = length f.metadata in
      let m = length f.body in
      let there : n ≤ length later = omega (arith, length-append f.metadata (f.body ++ rest)) in
      let body-there : m ≤ length (f.body ++ rest) = omega (arith, length-append f.body rest) in
      let meta : take n later ≡ f.metadata = take_at f.metadata (f.body ++ rest) n refl in
      let tail : drop n later ≡ f.body ++ rest = drop_at f.metadata (f.body ++ rest) n refl in
      first_sized h e f.place bs room
      ∙ ap (λ k. with_size h e f.place (marks bs) (size_of bs) k) behind
      ∙ ap (λ k. with_size h e f.place k (size_of bs) later) marked
      ∙ ap (λ k. with_size h e f.place f.marked k later) sized
      ∙ size_fits h e f.place f.marked n later b.some b.fits there
      ∙ ap (λ k. with_facts h f.place f.marked k (drop n later) (e k)) meta
      ∙ ap (λ k. with_facts h f.place f.marked f.metadata k (e f.metadata)) tail
      ∙ ap (with_facts h f.place f.marked f.metadata (f.body ++ rest)) b.told
      ∙ ap (with_body f.place f.marked f.metadata f.facts (f.body ++ rest)) b.body ∙ body_whole f.place f.marked f.metadata f.facts (f.body ++ rest) m body-there
      ∙ ap (λ k. whole (record { place = f.place; marked = f.marked; metadata = f.metadata; facts = f.facts; body = k })) (take_at f.body rest m refl)

pub exactly : (h : Holds) (e : Envelope) (p : Place) (f : Frame) (bs : List ℕ) → Exactly h e p f bs
exactly h e p f bs = record {
  parts = parts_of_lem h e p bs f;
  found = λ rest at b. ap (λ q. first h e q bs) (sym at) ∙ found h e f bs rest b;
}
