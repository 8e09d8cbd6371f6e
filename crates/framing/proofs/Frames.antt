-- The stream byte by byte is the stream frame by frame.
use Rattle.std.proofs.Common.{◌≡◌, ℕ, zero, suc, ◌+◌, ◌<◌, ◌≤◌, Bool, List, [], ◌∷◌, length, take, drop, Some, None, Ok, Err, Option, Result, sym, refl, ap, ◌∙◌, inl, inr, append-nil, arith, length-drop, take-append-drop}
use Rattle.std.proofs.lemmas.List.{length-take-le, drop-drop}
use Rattle.std.proofs.lemmas.Bool.{cases_lt, cases_eq}
use Rattle.message.specs.declared.faults.Place.{Place}
use Rattle.message.specs.declared.headers.Facts.{Facts}
use Rattle.message.specs.declared.readings.Refused.{Refused}
use Rattle.framing.specs.Moves.{on, shows, Whole, whole_on, quiet, went_on, whole}
use Rattle.framing.specs.Frames.{Holds, Envelope, Frame, Shown, frame, end, behind, marks, opening, size_of, body_length, length_of}
use Rattle.framing.specs.Steps.{Stand, header, metadata, body, ended, Move, sized, bodied, told, filled, step}
use Rattle.framing.specs.Streams.{First, cut, whole as one, with_body, with_facts, with_size, first, short, Stream, none, also, after_end, followed, frames, start, stream}
use Rattle.framing.specs.Calls.{close_of}
use Rattle.framing.proofs.Blocks.{Acts, acts_whole}
use Rattle.framing.proofs.Fills.{metadata_acts, body_acts, opening_bounds, opening_cut, opening_all}
use Rattle.framing.proofs.Ways.{sized_end, sized_large, sized_fits, gathered_some, gathered_all, filled_some, filled_all, body_cut, body_whole, size_end, size_large, size_cut, size_fits, first_cut, first_sized}

abbrev pub stream_of : Whole Stand Shown → Stream
stream_of w = record { shown = w.shown; close = close_of w.last }

-- a stream that stops inside an opening
inside : (p : Place) (bs : List ℕ) → 0 < length bs → stream_of (record { shown = []; last = header p bs }) ≡ none short
inside p [] k = absurd (omega arith)
inside p (b ∷ bs) k = refl

module _ (h : Holds) (e : Envelope) where
  after_end_lem : (p : Place) (bs : List ℕ) → stream_of (whole (step h e) (ended p) bs) ≡ after_end p bs
  unfolding whole step
  after_end_lem p [] = refl
  after_end_lem p (b ∷ bs) = refl

  -- all bytes act as one
  acts_all : (s : Stand) (bs : List ℕ) (v : Move) → Acts (step h e) s bs v → whole (step h e) s bs ≡ whole_on (λ t. whole (step h e) t []) v
  acts_all s bs v a = ap (whole (step h e) s) (sym (append-nil bs)) ∙ acts_whole (step h e) bs [] s v a

  -- the first n bytes act as one
  acts_front : (s : Stand) (n : ℕ) (bs : List ℕ) (v : Move) → Acts (step h e) s (take n bs) v → whole (step h e) s bs ≡ whole_on (λ t. whole (step h e) t (drop n bs)) v
  acts_front s n bs v a = ap (whole (step h e) s) (sym (take-append-drop n bs)) ∙ acts_whole (step h e) (take n bs) (drop n bs) s v a

  module _ (p : Place) (bs : List ℕ) (later : Place → List ℕ → Stream) (next : (f : Frame) → 0 < length_of f → stream_of (whole (step h e) (header (behind p (length_of f)) []) (drop (length_of f) bs)) ≡ later (behind p (length_of f)) (drop (length_of f) bs)) where
    abbrev After : Move → List ℕ → First → Type 0
    After v rest f = stream_of (whole_on (λ t. whole (step h e) t rest) v) ≡ followed later p bs f

    after_by : (v w : Move) (rest : List ℕ) (f g : First) → v ≡ w → f ≡ g → After w rest g → After v rest f
    after_by v w rest f g d k a = ap (λ u. stream_of (whole_on (λ t. whole (step h e) t rest) u)) d ∙ a ∙ sym (ap (followed later p bs) k)

    -- a frame that is whole
    shown : (f : Frame) (rest : List ℕ) → drop (length_of f) bs ≡ rest → After (shows (frame f) (header (behind p (length_of f)) [])) rest (one f)
    shown f rest is =
        let b = opening_bounds f.marked in
        ap (λ l. also (frame f) (stream_of (whole (step h e) (header (behind p (length_of f)) []) l))) (sym is) ∙ ap (also (frame f)) (next f (omega (arith, b.0)))

    module _ (marked : Bool) (meta rest : List ℕ) (is : drop (opening marked + length meta) bs ≡ rest) (facts : Facts) where
      abbrev frame_of : List ℕ → Frame
      frame_of got = record { place = p; marked = marked; metadata = meta; facts = facts; body = got }

      left : (n : ℕ) (got : List ℕ) → length got ≡ n → drop (length_of (frame_of got)) bs ≡ drop n rest
      left n got l =
          let k : opening marked + (length meta + length got) ≡ opening marked + length meta + n = omega arith in
          ap (λ j. drop j bs) k ∙ sym (drop-drop n (opening marked + length meta) bs) ∙ ap (drop n) is

      body-short : (n : ℕ) → length rest < n → After (on (body p marked meta facts n [])) rest cut
      unfolding whole
      body-short n k =
          ap stream_of (acts_all (body p marked meta facts n []) rest (on (body p marked meta facts n rest)) (body_acts h e p marked meta facts n rest [] (omega arith) (omega arith) ∙ ap (went_on [] quiet) (filled_some p marked meta facts n rest k)))

      body-full : (n : ℕ) → 0 < n → n ≤ length rest → After (on (body p marked meta facts n [])) rest (one (frame_of (take n rest)))
      body-full n some k =
          let l : length (take n rest) ≡ n = length-take-le n rest k in
          ap stream_of (acts_front (body p marked meta facts n []) n rest (shows (frame (frame_of (take n rest))) (header (behind p (length_of (frame_of (take n rest)))) [])) (body_acts h e p marked meta facts n (take n rest) [] some (omega arith) ∙ ap (went_on [] quiet) (filled_all p marked meta facts n (take n rest) l)))
          ∙ shown (frame_of (take n rest)) (drop n rest) (left n (take n rest) l)

      -- a body of n bytes, which may be none
      body-after : (n : ℕ) → After (filled p marked meta facts n []) rest (with_body p marked meta facts rest (Some n))
      body-after zero = after_by _ _ rest _ _ (filled_all p marked meta facts 0 [] refl) (body_whole p marked meta facts rest 0 (omega arith)) (shown (frame_of []) rest (left 0 [] refl))
      body-after (suc n) =
          let some = filled_some p marked meta facts (suc n) [] (omega arith) in
          elim (cases_lt (length rest) (suc n)) [
            | inl k ↦ after_by _ _ rest _ _ some (body_cut p marked meta facts rest (suc n) k) (body-short (suc n) k)
            | inr k ↦ after_by _ _ rest _ _ some (body_whole p marked meta facts rest (suc n) k) (body-full (suc n) (omega arith) k)
          ]

      bodied-after : (o : Option ℕ) → After (bodied p marked meta facts o) rest (with_body p marked meta facts rest o)
      bodied-after None = refl
      bodied-after (Some n) = body-after n

    told_after : (marked : Bool) (meta rest : List ℕ) → drop (opening marked + length meta) bs ≡ rest → (r : Result Facts Refused) → After (told h p marked meta r) rest (with_facts h p marked meta rest r)
    told_after marked meta rest is (Err x) = refl
    told_after marked meta rest is (Ok facts) = bodied-after marked meta rest is facts (body_length h facts)

    module _ (marked : Bool) (n : ℕ) (rest : List ℕ) (is : drop (opening marked) bs ≡ rest) where
      metadata-short : length rest < n → After (on (metadata p marked n [])) rest cut
      unfolding whole
      metadata-short k =
          ap stream_of (acts_all (metadata p marked n []) rest (on (metadata p marked n rest)) (metadata_acts h e p marked n rest [] (omega arith) (omega arith) ∙ ap (went_on [] quiet) (gathered_some h e p marked n rest k)))

      metadata-full : 0 < n → n ≤ length rest → After (on (metadata p marked n [])) rest (with_facts h p marked (take n rest) (drop n rest) (e (take n rest)))
      metadata-full some k =
          let l : length (take n rest) ≡ n = length-take-le n rest k in
          let behind-it : drop (opening marked + length (take n rest)) bs ≡ drop n rest = ap (λ j. drop (opening marked + j) bs) l ∙ sym (drop-drop n (opening marked) bs) ∙ ap (drop n) is in
          ap stream_of (acts_front (metadata p marked n []) n rest (told h p marked (take n rest) (e (take n rest))) (metadata_acts h e p marked n (take n rest) [] some (omega arith) ∙ ap (went_on [] quiet) (gathered_all h e p marked n (take n rest) l)))
          ∙ told_after marked (take n rest) (drop n rest) behind-it (e (take n rest))

      size-after : After (sized h p marked n) rest (with_size h e p marked n rest)
      size-after = elim (cases_eq n 0) [
        | inl z ↦ after_by _ _ rest _ _ (sized_end h p marked n z) (size_end h e p marked n rest z) (ap (also (end p)) (after_end_lem (behind p (opening marked)) rest ∙ ap (after_end (behind p (opening marked))) (sym is)))
        | inr z ↦
            let some : 0 < n = omega arith in
            elim (cases_lt h.metadata n) [
              | inl k ↦ after_by _ _ rest _ _ (sized_large h p marked n some k) (size_large h e p marked n rest some k) refl
              | inr k ↦ elim (cases_lt (length rest) n) [
                | inl c ↦ after_by _ _ rest _ _ (sized_fits h p marked n some k) (size_cut h e p marked n rest some k c) (metadata-short c)
                | inr c ↦ after_by _ _ rest _ _ (sized_fits h p marked n some k) (size_fits h e p marked n rest some k c) (metadata-full some c)
              ]
            ]
      ]

    -- the opening, whole or cut short
    opening_after : 0 < length bs → stream_of (whole (step h e) (header p []) bs) ≡ followed later p bs (first h e p bs)
    unfolding whole
    opening_after some = elim (cases_lt (length bs) (opening (marks bs))) [
      | inl k ↦ ap stream_of (acts_all (header p []) bs (on (header p bs)) (opening_cut h e p bs (record { more = k }))) ∙ inside p bs some ∙ sym (ap (followed later p bs) (first_cut h e p bs k))
      | inr k ↦
          ap stream_of (acts_front (header p []) (opening (marks bs)) bs (sized h p (marks bs) (size_of bs)) (opening_all h e p bs (opening (marks bs)) refl k))
          ∙ size-after (marks bs) (size_of bs) (drop (opening (marks bs)) bs) refl
          ∙ sym (ap (followed later p bs) (first_sized h e p bs k))
    ]

  pub framed : (most : ℕ) (bs : List ℕ) (p : Place) → length bs < most → stream_of (whole (step h e) (header p []) bs) ≡ frames h e most p bs
  unfolding whole frames
  framed zero bs p k = absurd (omega arith)
  framed (suc most) [] p k = refl
  framed (suc most) (b ∷ bs) p k =
      opening_after p (b ∷ bs) (frames h e most) (λ f some. framed most (drop (length_of f) (b ∷ bs)) (behind p (length_of f)) (let l = length-drop (length_of f) (b ∷ bs) in omega arith)) (omega arith)

-- a stream from its first byte on
pub whole_is : (h : Holds) (e : Envelope) (bs : List ℕ) → stream_of (whole (step h e) (header start []) bs) ≡ stream h e bs
unfolding stream
whole_is h e bs = framed h e (suc (length bs)) bs start (omega arith)
