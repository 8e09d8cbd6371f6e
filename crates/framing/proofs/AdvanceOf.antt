-- One piece: turn after turn.
use Rattle.std.proofs.Common.{◌≡◌, ℕ, ◌-◌, ◌≤◌, true, false, ◌⊎◌, List, [], length, take, drop, is_some, Some, None, Ok, Err, Option, Result, sym, refl, ap, ◌∙◌, subst, subst₂, inl, inr, arith, length-drop}
use Rattle.std.proofs.lemmas.List.{take_rest}
use Rattle.std.proofs.lemmas.Bool.{true≢false}
use Rattle.message.specs.declared.faults.Fault.{Fault}
use Rattle.framing.specs.declared.events.Event.{Event}
use Rattle.framing.specs.declared.events.Step.{Step}
use Rattle.framing.specs.declared.state.FrameDecoder.{FrameDecoder}
use Rattle.framing.specs.Moves.{Went, quiet, showed, refused}
use Rattle.framing.specs.Frames.{Holds, Envelope, Shown}
use Rattle.framing.specs.Steps.{Stand}
use Rattle.framing.specs.Calls.{advanced, answered, standing, Held}
use Rattle.framing.specs.Views.{stand_of, holds_of, Own, Advances}
use Rattle.framing.specs.Turns.{Kept, Turns}
use Rattle.framing.proofs.Stands.{holds_kept}

-- the decoder has moved from s to d, and the rest of the piece goes on from there
pub record Sofar (e : Envelope) (h : Holds) (s : Stand) (piece rest : List ℕ) (d : FrameDecoder) (m b : List ℕ) : Type 0 where
  pub within : length rest ≤ length piece
  pub moved : advanced h e s piece ≡ advanced h e (stand_of d m b) rest
  pub kept : holds_of d ≡ h
  pub own : Own d m b

module _ (e : Envelope) (d : FrameDecoder) (m b piece : List ℕ) where
  abbrev h : Holds
  h = holds_of d

  -- what a piece comes to, by what all of it does
  came : (w : Went Stand Shown Fault) (d' : FrameDecoder) (m' b' : List ℕ) (r : Result Step Fault) → Own d m b → advanced h e (stand_of d m b) piece ≡ w → r ≡ answered piece w → stand_of d' m' b' ≡ standing w → Held w m' b' → holds_of d' ≡ h → length m' ≡ length m → length b' ≡ length b → Advances e d m b piece r d' m' b'
  came w d' m' b' r own is answer stand held holds same same' = record {
    own = λ _. record {
      answer = answer ∙ sym (ap (answered piece) is);
      stand = stand ∙ sym (ap standing is);
      held = subst (λ t. Held t m' b') (sym is) held;
      holds = holds;
    };
    other = λ not_own. absurd (not_own own);
    metadata_length = same;
    body_length = same';
  }

  module _ (rest : List ℕ) (t : FrameDecoder) (k l : List ℕ) (own : Own d m b) (so : Sofar e h (stand_of d m b) piece rest t k l) (d' : FrameDecoder) (m' b' : List ℕ) (same : length m' ≡ length m) (same' : length b' ≡ length b) where
    -- what is left behind u bytes, as the code has it
    abbrev left : ℕ → List ℕ
    left u = take (length rest - u) (drop u rest)

    -- what a turn says, of the lengths of the holds and of what is left
    at_left : (u : ℕ) (P : Holds → List ℕ → Type 0) → P (holds_of t) (drop u rest) → P h (left u)
    at_left u P p = subst₂ P so.kept (sym (take_rest rest u)) p

    shorter : (u : ℕ) → length (left u) ≤ length piece
    shorter u =
        let n = ap length (take_rest rest u) in
        let j = length-drop u rest in
        omega (arith, so.within)

    holds_still : Kept t d' → holds_of d' ≡ h
    holds_still kept = holds_kept t d' kept ∙ so.kept

    still_own : Kept t d' → Own d' m' b'
    still_own kept =
        let n = ap (λ x. x.metadata) (holds_still kept) in
        let o = ap (λ x. x.body) (holds_still kept) in
        (same ∙ own.0 ∙ sym n, same' ∙ own.1 ∙ sym o)

    -- all bytes so far, where the turn shows nothing
    on_quiet : (u : ℕ) → advanced (holds_of t) e (stand_of t k l) rest ≡ advanced (holds_of t) e (stand_of d' m' b') (drop u rest) → advanced h e (stand_of d m b) piece ≡ advanced h e (stand_of d' m' b') (left u)
    on_quiet u moved = so.moved ∙ at_left u (λ g xs. advanced g e (stand_of t k l) rest ≡ advanced g e (stand_of d' m' b') xs) moved

    -- one turn more
    pub one_more : (u : ℕ) (o : Option Event) → is_some o ≡ false → Turns e t k l rest (Ok (record { used = u; event = o })) d' m' b' → Sofar e h (stand_of d m b) piece (left u) d' m' b'
    one_more u None is turned = record { within = shorter u; moved = on_quiet u turned.by.2.0; kept = holds_still turned.kept; own = still_own turned.kept }
    one_more u (Some x) is turned = absurd (true≢false is)

    -- the last turn
    pub ends_with : (u : ℕ) (o : Option Event) → (true ≡ is_some o) ⊎ (left u ≡ []) → Turns e t k l rest (Ok (record { used = u; event = o })) d' m' b' → Advances e d m b piece (Ok (record { used = length piece - length (left u); event = o })) d' m' b'
    ends_with u None (inl some) turned = absurd (true≢false some)
    ends_with u None (inr all) turned =
        let last : advanced h e (stand_of d' m' b') [] ≡ quiet (stand_of d' m' b') = at_left u (λ g _. advanced g e (stand_of d' m' b') [] ≡ quiet (stand_of d' m' b')) turned.by.2.1 in
        came (quiet (stand_of d' m' b')) d' m' b' _ own (on_quiet u turned.by.2.0 ∙ ap (advanced h e (stand_of d' m' b')) all ∙ last)
        (ap (λ j. Ok (record { used = j; event = None })) (let n = ap length all in omega arith)) refl tt (holds_still turned.kept) same same'
    ends_with u (Some x) how turned =
        let on = turned.by.2 in
        let next : advanced h e (stand_of t k l) rest ≡ showed on.0 (stand_of d' m' b') (left u) = at_left u (λ g xs. advanced g e (stand_of t k l) rest ≡ showed on.0 (stand_of d' m' b') xs) on.1 in
        came (showed on.0 (stand_of d' m' b') (left u)) d' m' b' _ own (so.moved ∙ next)
        (ap (λ j. Ok (record { used = length piece - length (left u); event = Some j })) on.2) refl on.3 (holds_still turned.kept) same same'

    pub refuses : (f : Fault) → Turns e t k l rest (Err f) d' m' b' → Advances e d m b piece (Err f) d' m' b'
    refuses f turned =
        let next = at_left 0 (λ g _. advanced g e (stand_of t k l) rest ≡ refused f (stand_of d' m' b')) turned.by in
        came (refused f (stand_of d' m' b')) d' m' b' (Err f) own (so.moved ∙ next) refl refl tt (holds_still turned.kept) same same'
