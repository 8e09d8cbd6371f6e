-- The feed byte by byte is the feed message by message.
use Rattle.std.proofs.Common.{◌≡◌, ℕ, List, [], ◌∷◌, refl, ap, ◌∙◌}
use Rattle.message.specs.declared.faults.Fault.{Fault}
use Rattle.message.specs.declared.faults.Place.{Place}
use Rattle.framing.specs.Calls.{close_of}
use Rattle.framing.specs.Frames.{Shown, frame, end}
use Rattle.framing.specs.Moves.{Moved, on, shows, refuses, Whole, whole_on, whole}
use Rattle.framing.specs.Steps.{Stand, header, step}
use Rattle.framing.specs.Streams.{start}
use Rattle.framing.proofs.Frames.{stream_of, whole_is}
use Rattle.feeds.specs.Messages.{Terms, Kept, Outcome, refuses as refuses_it, keeps, shows as shows_it}
use Rattle.feeds.specs.Streams.{Meaning, envelope, holds_of, nothing_kept, act_frame, and_batch, tells, messages, told_by, feed}
use Rattle.feeds.specs.Steps.{starting, acted, shown_frame, moved_by, feed_step}
use Rattle.feeds.specs.Laws.{told_of}

module _ (t : Terms) (m : Meaning) where
  abbrev frames : Stand → List ℕ → Whole Stand Shown
  frames s bs = whole (step (holds_of t) (envelope m)) s bs

  -- all bytes from a state on, as a feed and as its frames alone
  abbrev Tells : List ℕ → Type 0
  Tells bs = (s : Stand) (k : Kept) → told_of (whole (feed_step t m) (record { stand = s; kept = k }) bs) ≡ told_by t m k (stream_of (frames s bs))

  outcome_tells : (bs : List ℕ) → Tells bs → (s : Stand) (k : Kept) (p : Place) (o : Outcome) → told_of (whole_on (λ u. whole (feed_step t m) u bs) (acted k p s o)) ≡ tells (λ k'. messages t m (close_of (frames s bs).last) k' (frames s bs).shown) k p o
  outcome_tells bs ih s k p (refuses_it b) = refl
  outcome_tells bs ih s k p (keeps k') = ih s k'
  outcome_tells bs ih s k p (shows_it k' b) = ap (and_batch b) (ih s k')

  shown_tells : (bs : List ℕ) → Tells bs → (s : Stand) (k : Kept) (x : Shown) → told_of (whole_on (λ u. whole (feed_step t m) u bs) (shown_frame t m k s x)) ≡ messages t m (close_of (frames s bs).last) k (x ∷ (frames s bs).shown)
  shown_tells bs ih s k (frame f) = outcome_tells bs ih s k f.place (act_frame t m k f)
  shown_tells bs ih s k (end p) = ih s k

  move_tells : (bs : List ℕ) → Tells bs → (k : Kept) (v : Moved Stand Shown Fault) → told_of (whole_on (λ u. whole (feed_step t m) u bs) (moved_by t m k v)) ≡ told_by t m k (stream_of (whole_on (λ u. frames u bs) v))
  move_tells bs ih k (on s) = ih s k
  move_tells bs ih k (shows x s) = shown_tells bs ih s k x
  move_tells bs ih k (refuses f s) = refl

  pub tells_all : (bs : List ℕ) → Tells bs
  unfolding whole feed_step
  tells_all [] s k = refl
  tells_all (b ∷ bs) s k = move_tells bs (tells_all bs) k (step (holds_of t) (envelope m) s b)

pub steps_tell : (t : Terms) (m : Meaning) (bytes : List ℕ) → told_of (whole (feed_step t m) starting bytes) ≡ feed t m bytes
unfolding feed
steps_tell t m bytes = tells_all t m bytes (header start []) nothing_kept ∙ ap (told_by t m nothing_kept) (whole_is (holds_of t) (envelope m) bytes)
