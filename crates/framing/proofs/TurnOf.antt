-- One turn of a decoder, way by way.
use Rattle.std.proofs.Common.{◌≡◌, ℕ, ◌+◌, ◌<◌, ◌≤◌, List, [], ◌∷◌, ◌++◌, length, get_or, take, drop, Some, None, Ok, Err, Option, sym, refl, ap, ◌∙◌, subst, arith, lit<, take-append-drop}
use Rattle.std.proofs.lemmas.List.{append_assoc, length-take-le, take_more}
use Rattle.message.specs.declared.faults.Fault.{Fault}
use Rattle.message.specs.declared.faults.Place.{Place}
use Rattle.message.specs.declared.faults.Refusal.TheVariants.{BehindEnd}
use Rattle.framing.specs.declared.events.Event.{Event}
use Rattle.framing.specs.declared.events.FrameHead.{FrameHead}
use Rattle.framing.specs.declared.events.Step.{Step}
use Rattle.framing.specs.declared.openings.Opening.{Opening}
use Rattle.framing.specs.declared.openings.OpeningBytes.{OpeningBytes}
use Rattle.framing.specs.declared.state.DecoderState.{DecoderState}
use Rattle.framing.specs.declared.state.DecoderState.TheVariants.{Header, Message, Body, Finished, Stopped}
use Rattle.framing.specs.declared.state.FrameDecoder.{FrameDecoder}
use Rattle.framing.specs.Moves.{refuses, quiet, went_on, goes}
use Rattle.framing.specs.Within.{reach, held, spans, fills as fills_of}
use Rattle.framing.specs.Frames.{Envelope}
use Rattle.framing.specs.Steps.{Stand, header, metadata, body, ended, stopped, Move, refuse, opened, filled, gathered, step}
use Rattle.framing.specs.Calls.{advanced}
use Rattle.framing.specs.Views.{state_stand, stand_of, holds_of, Own}
use Rattle.framing.specs.Turns.{Fills, Kept, Stops, ShownBy, Moves, Turns}
use Rattle.framing.proofs.Blocks.{Acts, acts_goes}
use Rattle.framing.proofs.Fills.{Begun, begun, metadata_acts, body_acts, opening_on}
use Rattle.framing.proofs.Gathers.{Last}
use Rattle.framing.proofs.Shown.{Live, StopsBy, opened_stops, filled_stops, gathered_stops, live_goes}
use Rattle.framing.proofs.Stands.{stand_at, stand_stopped}

-- n bytes of the rest act as one
pub record Acted (e : Envelope) (d : FrameDecoder) (m b rest : List ℕ) (n : ℕ) (v : Move) : Type 0 where
  pub stand : Stand
  pub is : stand_of d m b ≡ stand
  pub live : Live stand
  pub acts : Acts (step (holds_of d) e) stand (take n rest) v
  pub stops : StopsBy v
  pub within : n ≤ length rest
  pub some : 0 < length rest → 0 < n

module _ {e : Envelope} {d : FrameDecoder} {m b rest : List ℕ} {n : ℕ} {v : Move} (a : Acted e d m b rest n v) where
  went : advanced (holds_of d) e (stand_of d m b) rest ≡ went_on (drop n rest) (λ t. goes (step (holds_of d) e) t (drop n rest)) v
  went =
      ap (λ s. advanced (holds_of d) e s rest) a.is ∙ live_goes (holds_of d) e a.stand rest a.live
      ∙ ap (goes (step (holds_of d) e) a.stand) (sym (take-append-drop n rest)) ∙ acts_goes (step (holds_of d) e) (take n rest) (drop n rest) a.stand v a.acts

  shown : (d' : FrameDecoder) (m' b' : List ℕ) (o : Option Event) → ShownBy v o (stand_of d' m' b') m' b' → Kept d d' → Turns e d m b rest (Ok (record { used = n; event = o })) d' m' b'
  unfolding goes
  shown d' m' b' None is kept =
      let live : Live (stand_of d' m' b') = subst StopsBy is a.stops in
      let all = went ∙ ap (went_on (drop n rest) (λ t. goes (step (holds_of d) e) t (drop n rest))) is ∙ sym (live_goes (holds_of d) e (stand_of d' m' b') (drop n rest) live) in
      record { by = (a.within, a.some, (all, live_goes (holds_of d) e (stand_of d' m' b') [] live)); kept = kept }
  shown d' m' b' (Some x) is kept = record {
    by = (a.within, a.some, (is.0, went ∙ ap (went_on (drop n rest) (λ t. goes (step (holds_of d) e) t (drop n rest))) is.1, is.2, is.3));
    kept = kept;
  }

  pub turn_ok : {d' : FrameDecoder} {m' b' : List ℕ} {o : Option Event} → Moves v d (Ok o) d' m' b' → Turns e d m b rest (Ok (record { used = n; event = o })) d' m' b'
  turn_ok {d' = d'} {m' = m'} {b' = b'} {o = o} is = shown d' m' b' o is.by is.kept

  pub turn_err : {d' : FrameDecoder} {m' b' : List ℕ} {f : Fault} → Moves v d (Err f) d' m' b' → Turns e d m b rest (Err f) d' m' b'
  turn_err is = record { by = went ∙ ap (went_on (drop n rest) (λ t. goes (step (holds_of d) e) t (drop n rest))) is.by; kept = is.kept }

front_one : (rest : List ℕ) → 0 < length rest → take 1 rest ≡ get_or rest 0 0 ∷ []
front_one rest some = take_more rest 0 0 some

-- some bytes of an opening, and one that may be its last
pub opening_turn : {e : Envelope} {d : FrameDecoder} {m b rest : List ℕ} {s : OpeningBytes} (s' : OpeningBytes) {n : ℕ} → d.state ≡ Header s → n < length rest → take s'.got s'.bytes ≡ take s.got s.bytes ++ take n rest → Acted e d m b rest (n + 1) (opened (holds_of d) d.place (take s'.got s'.bytes ++ get_or rest n 0 ∷ []))
opening_turn {e = e} {d = d} {m = m} {b = b} {rest = rest} {s = s} s' {n = n} is within joined =
    let l : Last (take (n + 1) rest) = record { front = take n rest; byte = get_or rest n 0; is = take_more rest n 0 within; long = omega (arith, length-take-le (n + 1) rest (omega arith), length-take-le n rest (omega arith)) } in
    let all : take s.got s.bytes ++ take (n + 1) rest ≡ take s'.got s'.bytes ++ get_or rest n 0 ∷ [] = ap (λ xs. take s.got s.bytes ++ xs) l.is ∙ sym (append_assoc (take s.got s.bytes) (take n rest) (l.byte ∷ [])) ∙ ap (λ xs. xs ++ l.byte ∷ []) (sym joined) in
    record {
      stand = header d.place (take s.got s.bytes);
      is = stand_at d m b (Header s) is;
      live = tt;
      acts = opening_on (holds_of d) e d.place (take s.got s.bytes) (take (n + 1) rest) l (subst Begun joined (begun s')) ∙ ap (λ xs. went_on [] quiet (opened (holds_of d) d.place xs)) all;
      stops = opened_stops (holds_of d) d.place (take s'.got s'.bytes ++ get_or rest n 0 ∷ []);
      within = omega arith;
      some = λ k. omega arith;
    }

-- some of the metadata, or all
pub metadata_turn : {e : Envelope} {d : FrameDecoder} {m b m' rest : List ℕ} {o : Opening} {got n : ℕ} → d.state ≡ Message o got → Own d m b → Fills m got o.size rest n m' → Acted e d m b rest n (gathered (holds_of d) e d.place o.marked o.size (take (got + n) m'))
metadata_turn {e = e} {d = d} {m = m} {b = b} {m' = m'} {rest = rest} {o = o} {got = got} {n = n} is own fills =
    let c = fills.count in
    let h = ap held is in
    let r = ap reach is in
    let more : got < o.size = omega (arith, d.part) in
    let room : o.size ≤ length m = omega (arith, d.size, own.0) in
    let k : length (take got m) ≡ got = length-take-le got m (omega arith) in
    let l : length (take n rest) ≡ n = length-take-le n rest (omega arith) in
    record {
      stand = metadata d.place o.marked o.size (take got m);
      is = stand_at d m b (Message o got) is;
      live = tt;
      acts = metadata_acts (holds_of d) e d.place o.marked o.size (take n rest) (take got m) (omega arith) (omega arith) ∙ ap (λ l. went_on [] quiet (gathered (holds_of d) e d.place o.marked o.size l)) (sym fills.front);
      stops = gathered_stops (holds_of d) e d.place o.marked o.size (take (got + n) m');
      within = omega arith;
      some = λ k. omega arith;
    }

-- some of the body, or all
pub body_turn : {e : Envelope} {d : FrameDecoder} {m b b' rest : List ℕ} {head : FrameHead} {got n : ℕ} → d.state ≡ Body head got → Own d m b → Fills b got head.body rest n b' → Acted e d m b rest n (filled head.place head.opening.marked (take head.opening.size m) head.facts head.body (take (got + n) b'))
body_turn {e = e} {d = d} {m = m} {b = b} {b' = b'} {rest = rest} {head = head} {got = got} {n = n} is own fills =
    let c = fills.count in
    let h = ap fills_of is in
    let r = ap spans is in
    let more : got < head.body = omega (arith, d.rest) in
    let room : head.body ≤ length b = omega (arith, d.length, own.1) in
    let k : length (take got b) ≡ got = length-take-le got b (omega arith) in
    let l : length (take n rest) ≡ n = length-take-le n rest (omega arith) in
    let meta = take head.opening.size m in
    record {
      stand = body head.place head.opening.marked meta head.facts head.body (take got b);
      is = stand_at d m b (Body head got) is;
      live = tt;
      acts = body_acts (holds_of d) e head.place head.opening.marked meta head.facts head.body (take n rest) (take got b) (omega arith) (omega arith) ∙ ap (λ l. went_on [] quiet (filled head.place head.opening.marked meta head.facts head.body l)) (sym fills.front);
      stops = filled_stops head.place head.opening.marked meta head.facts head.body (take (got + n) b');
      within = omega arith;
      some = λ k. omega arith;
    }

-- a byte behind the end
pub behind_end : {e : Envelope} {d d' : FrameDecoder} {m b rest : List ℕ} {f : Fault} → 0 < length rest → d.state ≡ Finished → Stops BehindEnd d f d' → Turns e d m b rest (Err f) d' m b
unfolding goes step
behind_end {e = e} {d = d} {d' = d'} {m = m} {b = b} {rest = rest} {f = f} some is stops =
    let s : refuse BehindEnd d.place ≡ refuses f (stand_of d' m b) = ap (λ y. refuses y (stopped y)) (sym stops.value) ∙ ap (refuses f) (sym (stand_stopped d' m b f stops.state)) in
    let a : Acted e d m b rest 1 (refuse BehindEnd d.place) = record {
      stand = ended d.place;
      is = stand_at d m b Finished is;
      live = tt;
      acts = ap (goes (step (holds_of d) e) (ended d.place)) (front_one rest some);
      stops = refl;
      within = some;
      some = λ k. lit< tt;
    } in
    turn_err a (record { by = s; kept = stops.kept })

-- no byte
live_state : (s : DecoderState) (p : Place) (m b : List ℕ) → ((f : Fault) → s ≡ Stopped f → ⊥) → Live (state_stand s p m b)
live_state (Header start) p m b live = tt
live_state (Message o got) p m b live = tt
live_state (Body head got) p m b live = tt
live_state Finished p m b live = tt
live_state (Stopped f) p m b live = live f refl

pub no_byte : {e : Envelope} {d : FrameDecoder} {m b rest : List ℕ} {t : Step} → rest ≡ [] → t.used ≡ 0 → t.event ≡ None → ((f : Fault) → d.state ≡ Stopped f → ⊥) → Turns e d m b rest (Ok t) d m b
unfolding goes
no_byte {e = e} {d = d} {m = m} {b = b} {rest = rest} {t = t} none used event live =
    let k : length rest ≡ 0 = ap length none in
    let all : Turns e d m b rest (Ok (record { used = 0; event = None })) d m b = record {
      by = (omega arith, (λ some. absurd (omega arith)), (refl, live_goes (holds_of d) e (stand_of d m b) [] (live_state d.state d.place m b live)));
      kept = record { metadata = refl; body = refl };
    } in
    let is : t ≡ record { used = 0; event = None } = ap (λ n. record { used = n; event = t.event }) used ∙ ap (λ x. record { used = 0; event = x }) event in
    subst (λ s. Turns e d m b rest (Ok s) d m b) (sym is) all
