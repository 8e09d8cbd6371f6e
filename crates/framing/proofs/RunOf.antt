-- A run of calls that meet their contracts goes by where the decoder stands.
use Rattle.std.proofs.Common.{◌≡◌, ℕ, List, [], ◌∷◌, length, sym, ap, ◌∙◌, subst}
use Rattle.framing.specs.declared.state.FrameDecoder.{FrameDecoder}
use Rattle.framing.specs.Frames.{Holds, Envelope}
use Rattle.framing.specs.Steps.{header}
use Rattle.framing.specs.Streams.{start}
use Rattle.framing.specs.Calls.{advanced, answered, standing, Held}
use Rattle.framing.specs.Views.{Own, stand_of, holds_of}
use Rattle.framing.specs.Runs.{Call, advances, advances_other, ends_at, Runs, Shows, Begins, Lawful}
use Rattle.framing.proofs.Frames.{whole_is}
use Rattle.framing.proofs.Shown.{Follows, shows_run}

module _ (h : Holds) (e : Envelope) where
  follows : (cs : List Call) (d : FrameDecoder) (m b : List ℕ) → holds_of d ≡ h → length m ≡ h.metadata → length b ≡ h.body → Runs e d m b cs → Follows h e (stand_of d m b) cs
  follows [] d m b is l k run = tt
  follows (advances p r m' b' ∷ cs) d m b is l k run =
      let own : Own d m b = (l ∙ sym (ap (λ t. t.metadata) is), k ∙ sym (ap (λ t. t.body) is)) in
      let came = run.1.own own in
      let w : advanced (holds_of d) e (stand_of d m b) p ≡ advanced h e (stand_of d m b) p = ap (λ t. advanced t e (stand_of d m b) p) is in (
        came.answer ∙ ap (answered p) w,
        subst (λ t. Held t m' b') w came.held,
        subst (λ s. Follows h e s cs) (came.stand ∙ ap standing w) (follows cs run.0 m' b' (came.holds ∙ is) (run.1.metadata_length ∙ l) (run.1.body_length ∙ k) run.2),
      )
  follows (advances_other p r ∷ cs) d m b is l k run =
      let told = run.6.other run.5 in
      (told.0, follows cs d m b is l k (subst (λ t. Runs e t m b cs) told.1 run.7))
  follows (ends_at r ∷ cs) d m b is l k run = (run.0.says m b, follows cs d m b is l k run.1)

-- every run of a decoder that begins
pub lawful : (h : Holds) (d : FrameDecoder) → Begins h d → Lawful h d
lawful h d begins e m b l k cs run bytes gets =
    let all = subst (λ s. Follows h e s cs) (begins.stand m b) (follows h e cs d m b begins.holds l k run) in
    subst (λ s. Shows s bytes cs) (whole_is h e bytes) (shows_run h e cs (header start []) bytes tt all gets)
