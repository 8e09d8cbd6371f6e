-- Rows whose ends nest are the preorder of fields, and no others are.
use Rattle.std.proofs.Common.{◌≡◌, ℕ, zero, suc, ◌+◌, ◌-◌, ◌<◌, ◌≤◌, Bool, true, false, ◌&&◌, eqb, ltb, leb, List, [], ◌∷◌, ◌++◌, length, take, drop, Some, None, Option, sym, refl, ap, ◌∙◌, subst, append_assoc, suc-add, zero-add, arith, length-append}
use Rattle.std.proofs.lemmas.List.{drop_at}
use Rattle.std.proofs.lemmas.Bool.{eqb-true, eq-eqb, ne_eqb, lt-ltb, le-leb}
use Rattle.std.specs.Option.{option_map}
use Rattle.little.specs.Maybe.{and_then}
use Rattle.message.specs.declared.rows.Row.{Row}
use Rattle.schemas.specs.Schemas.{Fields, none, field, size, ended, listing, parse}

take_none : {A : Type 0} (b : ℕ) → ◌≡◌ {A = List A} (take b []) []
take_none zero = refl
take_none (suc b) = refl

take_both : {A : Type 0} (a b : ℕ) (xs : List A) → take (a + b) xs ≡ take a xs ++ take b (drop a xs)
take_both zero b xs = ap (λ n. take n xs) (zero-add b)
take_both (suc a) b [] = ap (λ n. take n []) (suc-add a b) ∙ sym (take_none b)
take_both (suc a) b (x ∷ xs) = ap (λ n. take n (x ∷ xs)) (suc-add a b) ∙ ap (λ l. x ∷ l) (take_both a b xs)

-- what a list of rows from row k up to `stop` is
pub record Reads (k stop : ℕ) (rows : List Row) (fs : Fields) : Type 0 where
  pub long : k + size fs ≡ stop
  pub same : take (size fs) rows ≡ listing k fs

no_rows : (k stop : ℕ) (rows : List Row) (b : Bool) (fs : Fields) → eqb k stop ≡ b → elim b [ true ↦ Some none | false ↦ None ] ≡ Some fs → Reads k stop rows fs
no_rows k stop rows true fs t e =
    let d : none ≡ fs = cc in
    subst (Reads k stop rows) d (record { long = let q = eqb-true k stop t in omega (arith, q); same = refl })
no_rows k stop rows false fs t e = cc

-- a row with its children and what stands behind them
one_more : (k stop : ℕ) (r : Row) (rest : List Row) (kids next : Fields) → Reads (k + 1) r.end rest kids → Reads r.end stop (drop (r.end - (k + 1)) rest) next → Reads k stop (r ∷ rest) (field r kids next)
one_more k stop r rest kids next a b =
    let n : r.end - (k + 1) ≡ size kids = omega (arith, a.long) in
    let stop_is : k + (1 + (size kids + size next)) ≡ stop = omega (arith, a.long, b.long) in
    let end_is : r.end ≡ k + 1 + size kids = omega (arith, a.long) in
    let behind : take (size next) (drop (size kids) rest) ≡ listing (k + 1 + size kids) next = ap (λ j. take (size next) (drop j rest)) (sym n) ∙ b.same ∙ ap (λ j. listing j next) end_is in
    let one : 1 + (size kids + size next) ≡ suc (size kids + size next) = omega arith in
    record {
      long = stop_is;
      same =
          ap (λ j. take j (r ∷ rest)) one
          ∙ ap (λ l. r ∷ l) (take_both (size kids) (size next) rest ∙ ap (λ l. l ++ take (size next) (drop (size kids) rest)) a.same ∙ ap (λ l. listing (k + 1) kids ++ l) behind)
          ∙ ap (λ j. ended r j ∷ (listing (k + 1) kids ++ listing (k + 1 + size kids) next)) end_is;
    }

module _ (k stop : ℕ) (r : Row) (rest : List Row) (inner : Option Fields) (outer : Option Fields) (fs : Fields) where
  read_both : (inner outer : Option Fields) → and_then inner (λ kids. option_map (field r kids) outer) ≡ Some fs → (kids : Fields) × (next : Fields) × (inner ≡ Some kids) × (outer ≡ Some next) × (field r kids next ≡ fs)
  read_both None outer e = cc
  read_both (Some kids) None e = cc
  read_both (Some kids) (Some next) e = (kids, next, refl, refl, cc)

  row_read : (b c : Bool) → eqb k stop ≡ b → ((kids : Fields) → inner ≡ Some kids → Reads (k + 1) r.end rest kids) → ((next : Fields) → outer ≡ Some next → Reads r.end stop (drop (r.end - (k + 1)) rest) next) → elim b [ true ↦ Some none | false ↦ elim c [ true ↦ and_then inner (λ kids. option_map (field r kids) outer) | false ↦ None ] ] ≡ Some fs → Reads k stop (r ∷ rest) fs
  row_read true c t f g e = no_rows k stop (r ∷ rest) true fs t e
  row_read false false t f g e = cc
  row_read false true t f g e =
      let p = read_both inner outer e in
      subst (Reads k stop (r ∷ rest)) p.4 (one_more k stop r rest p.0 p.1 (f p.0 p.2) (g p.1 p.3))

pub parse_reads : (most k stop : ℕ) (rows : List Row) (fs : Fields) → parse most k stop rows ≡ Some fs → Reads k stop rows fs
unfolding parse
parse_reads zero k stop rows fs e = no_rows k stop rows (eqb k stop) fs refl e
parse_reads (suc most) k stop [] fs e = no_rows k stop [] (eqb k stop) fs refl e
parse_reads (suc most) k stop (r ∷ rest) fs e =
    row_read k stop r rest (parse most (k + 1) r.end rest) (parse most r.end stop (drop (r.end - (k + 1)) rest)) fs (eqb k stop) (ltb k r.end && leb r.end stop) refl
    (λ kids d. parse_reads most (k + 1) r.end rest kids d)
    (λ next d. parse_reads most r.end stop (drop (r.end - (k + 1)) rest) next d)
    e

-- fields with the ends that their listing gives them
abbrev pub closed : ℕ → Fields → Fields
closed k none = none
closed k (field r kids next) = field (ended r (k + 1 + size kids)) (closed (k + 1) kids) (closed (k + 1 + size kids) next)

pub length_listing : (k : ℕ) (fs : Fields) → length (listing k fs) ≡ size fs
length_listing k none = refl
length_listing k (field r kids next) =
    let a = length_listing (k + 1) kids in
    let b = length_listing (k + 1 + size kids) next in
    let l = length-append (listing (k + 1) kids) (listing (k + 1 + size kids) next) in
    omega (arith, a, b, l)

row_parse : (most k stop : ℕ) (r : Row) (rest : List Row) (kids next : Fields) → k < r.end → r.end ≤ stop → parse most (k + 1) r.end rest ≡ Some kids → parse most r.end stop (drop (r.end - (k + 1)) rest) ≡ Some next → parse (suc most) k stop (r ∷ rest) ≡ Some (field r kids next)
unfolding parse
row_parse most k stop r rest kids next h l a b =
    rw (parse, ne_eqb k stop (λ e. omega (arith, e)), lt-ltb k r.end h, le-leb r.end stop l, a, b)

pub parse_listing : (fs : Fields) (most k : ℕ) (more : List Row) → size fs ≤ most → parse most k (k + size fs) (listing k fs ++ more) ≡ Some (closed k fs)
unfolding parse
parse_listing none zero k more h = rw (parse, eq-eqb k (k + 0) (omega arith))
parse_listing none (suc most) k [] h = rw (parse, eq-eqb k (k + 0) (omega arith))
parse_listing none (suc most) k (x ∷ more) h = rw (parse, eq-eqb k (k + 0) (omega arith))
parse_listing (field r kids next) zero k more h = absurd (omega arith)
parse_listing (field r kids next) (suc most) k more h =
    let e = k + 1 + size kids in
    let stop : k + (1 + (size kids + size next)) ≡ e + size next = omega arith in
    let joined : (listing (k + 1) kids ++ listing e next) ++ more ≡ listing (k + 1) kids ++ (listing e next ++ more) = append_assoc (listing (k + 1) kids) (listing e next) more in
    let width : e - (k + 1) ≡ size kids = omega arith in
    let behind : drop (e - (k + 1)) (listing (k + 1) kids ++ (listing e next ++ more)) ≡ listing e next ++ more = ap (λ n. drop n (listing (k + 1) kids ++ (listing e next ++ more))) width ∙ drop_at (listing (k + 1) kids) (listing e next ++ more) (size kids) (length_listing (k + 1) kids) in
    let inner = parse_listing kids most (k + 1) (listing e next ++ more) (omega arith) in
    let outer = ap (parse most e (e + size next)) behind ∙ parse_listing next most e more (omega arith) in
    ap (λ s. parse (suc most) k s (listing k (field r kids next) ++ more)) stop
    ∙ ap (λ l. parse (suc most) k (e + size next) (ended r e ∷ l)) joined
    ∙ row_parse most k (e + size next) (ended r e) (listing (k + 1) kids ++ (listing e next ++ more)) (closed (k + 1) kids) (closed e next) (omega arith) (omega arith) inner outer
