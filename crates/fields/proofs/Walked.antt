-- Fields read into a table, step by step.
use Rattle.std.proofs.Common.{◌≡◌, ℕ, zero, suc, ◌+◌, ◌-◌, ◌<◌, ◌≤◌, List, [], ◌∷◌, ◌++◌, length, set, pos, Some, None, Ok, Err, IsErr, Option, Result, sym, refl, ap, ◌∙◌, subst, append_assoc, append-nil, arith, length-append}
use Rattle.std.specs.Option.{option_map}
use Rattle.std.proofs.lemmas.List.{set_at}
use Rattle.little.specs.Maybe.{and_then}
use Rattle.message.specs.declared.rows.Row.{Row}
use Rattle.tables.specs.Tables.{item_of}
use Rattle.types.specs.declared.shapes.Tags.{Tags}
use Rattle.types.specs.declared.shapes.Typed.{Typed}
use Rattle.fields.specs.declared.parts.Field.{Field}
use Rattle.fields.specs.declared.parts.Index.{Index}
use Rattle.fields.specs.declared.parts.Refused.{Refused}
use Rattle.fields.specs.Fields.{field_at, tag_of}
use Rattle.fields.specs.Walks.{Walk, child_rows, kids_of, row_of, plain_rows, index_rows, field_rows, walk_at, Reads}

-- no rows, or more than there is room for
pub record Over (o : Option (List Row)) (xs : List Row) : Type 0 where
  pub over : (rows : List Row) → o ≡ Some rows → 256 < length xs + length rows

pub none_over : {o : Option (List Row)} {xs : List Row} → o ≡ None → Over o xs
none_over e = record { over = λ rows d. let z : ◌≡◌ {A = ℕ} 0 1 = cc in absurd (omega arith) }

pub refused : (r : Result (Unit {0}) Refused) {o : Option (List Row)} {xs : List Row} (xs' : List Row) → IsErr r → Over o xs → Reads o r xs xs'
refused (Ok u) xs' e h = cc
refused (Err f) xs' e h = h.over

-- the same rows under another name
pub reads_as : {o q : Option (List Row)} (r : Result (Unit {0}) Refused) (xs xs' : List Row) → o ≡ q → Reads q r xs xs' → Reads o r xs xs'
reads_as r xs xs' e got = subst (λ u. Reads u r xs xs') (sym e) got

-- the children so far are in the table, and what is left gives the others
pub record Sofar (walk : Walk) (bs : List ℕ) (tags : Tags) (at n k : ℕ) (xs₀ xs : List Row) : Type 0 where
  pub done : List Row
  pub table : xs ≡ xs₀ ++ done
  pub left : child_rows walk bs tags at n 0 (length xs₀) ≡ option_map (λ more. done ++ more) (child_rows walk bs tags at (n - k) k (length xs))

module _ (walk : Walk) (bs : List ℕ) (tags : Tags) (at : ℕ) where
  abbrev kids : ℕ → ℕ → ℕ → Option (List Row)
  kids n k before = child_rows walk bs tags at n k before

  kids_by : (n k before : ℕ) (o : Option ℕ) → 0 < n → o ≡ item_of bs at k → kids n k before ≡ and_then o (λ p. and_then (walk before p (tag_of bs tags k)) (λ rows. option_map (λ more. rows ++ more) (kids (n - 1) (k + 1) (before + length rows))))
  unfolding child_rows
  kids_by zero k before o h e = absurd (omega arith)
  kids_by (suc n) k before o h e =
      let d : suc n - 1 ≡ n = omega arith in
      rw (d, e)

  pub none_yet : (n : ℕ) (xs : List Row) → Sofar walk bs tags at n 0 xs xs
  none_yet n xs =
      let all : n ≡ n - 0 = omega arith in
      record { done = []; table = sym (append-nil xs); left = same (kids n 0 (length xs)) ∙ ap (λ j. option_map (λ more. [] ++ more) (kids j 0 (length xs))) all } where
        same : (o : Option (List Row)) → o ≡ option_map (λ more. [] ++ more) o
        same None = refl
        same (Some x) = refl

-- more rows than there is room for stay too many
over_more : (done xs₀ xs : List Row) (o : Option (List Row)) (rest : List Row → Option (List Row)) → xs ≡ xs₀ ++ done → Over o xs → Over (option_map (λ m. done ++ m) (and_then o (λ rows. option_map (λ m. rows ++ m) (rest rows)))) xs₀
over_more done xs₀ xs None rest t h = none_over refl
over_more done xs₀ xs (Some rows) rest t h = by (rest rows) where
  by : (r : Option (List Row)) → Over (option_map (λ m. done ++ m) (option_map (λ m. rows ++ m) r)) xs₀
  by None = none_over refl
  by (Some r) = record {
    over = λ more e.
        let d : more ≡ done ++ (rows ++ r) = cc in
        omega (arith, h.over rows refl, ap length d, length-append done (rows ++ r), length-append rows r, ap length t, length-append xs₀ done);
  }

mapped_twice : (o : Option (List Row)) (a b : List Row) → option_map (λ m. a ++ m) (option_map (λ m. b ++ m) o) ≡ option_map (λ m. (a ++ b) ++ m) o
mapped_twice None a b = refl
mapped_twice (Some x) a b = ap Some (sym (append_assoc a b x))

module _ {walk : Walk} {bs : List ℕ} {tags : Tags} {at n k : ℕ} {xs₀ xs : List Row} (inv : Sofar walk bs tags at n k xs₀ xs) where
  pub all_read : n ≤ k → Reads (child_rows walk bs tags at n 0 (length xs₀)) (Ok tt) xs₀ xs
  unfolding child_rows
  all_read h =
      let z : n - k ≡ 0 = omega arith in
      (inv.done, inv.left ∙ ap (λ j. option_map (λ more. inv.done ++ more) (child_rows walk bs tags at j k (length xs))) z ∙ ap Some (append-nil inv.done), inv.table)

  left_by : k < n → (o : Option ℕ) → o ≡ item_of bs at k → child_rows walk bs tags at n 0 (length xs₀) ≡ option_map (λ more. inv.done ++ more) (and_then o (λ p. and_then (walk (length xs) p (tag_of bs tags k)) (λ rows. option_map (λ more. rows ++ more) (child_rows walk bs tags at (n - k - 1) (k + 1) (length xs + length rows)))))
  left_by h o e = inv.left ∙ ap (option_map (λ more. inv.done ++ more)) (kids_by walk bs tags at (n - k) k (length xs) o (omega arith) e)

  pub no_item : k < n → None ≡ item_of bs at k → Over (child_rows walk bs tags at n 0 (length xs₀)) xs₀
  no_item h e = none_over (left_by h None e)

  module _ (h : k < n) {p tag : ℕ} (e : Some p ≡ item_of bs at k) (g : tag ≡ tag_of bs tags k) where
    pub field_over : Over (walk (length xs) p tag) xs → Over (child_rows walk bs tags at n 0 (length xs₀)) xs₀
    field_over over =
        subst (λ o. Over o xs₀) (sym (left_by h (Some p) e))
        (over_more inv.done xs₀ xs (walk (length xs) p (tag_of bs tags k)) (λ rs. child_rows walk bs tags at (n - k - 1) (k + 1) (length xs + length rs)) inv.table (subst (λ j. Over (walk (length xs) p j) xs) g over))

    pub field_read : (xs' : List Row) → Reads (walk (length xs) p tag) (Ok tt) xs xs' → Sofar walk bs tags at n (k + 1) xs₀ xs'
    field_read xs' got' =
        let got = subst (λ j. Reads (walk (length xs) p j) (Ok tt) xs xs') g got' in
        let rs = got.0 in
        let long : length xs + length rs ≡ length xs' = sym (ap length got.2 ∙ length-append xs rs) in
        let less : n - k - 1 ≡ n - (k + 1) = omega arith in
        record {
          done = inv.done ++ rs;
          table = got.2 ∙ ap (λ l. l ++ rs) inv.table ∙ append_assoc xs₀ inv.done rs;
          left =
              left_by h (Some p) e
              ∙ ap (λ o. option_map (λ more. inv.done ++ more) (and_then o (λ rows. option_map (λ more. rows ++ more) (child_rows walk bs tags at (n - k - 1) (k + 1) (length xs + length rows))))) got.1
              ∙ ap (λ b. option_map (λ more. inv.done ++ more) (option_map (λ more. rs ++ more) (child_rows walk bs tags at (n - k - 1) (k + 1) b))) long
              ∙ ap (λ j. option_map (λ more. inv.done ++ more) (option_map (λ more. rs ++ more) (child_rows walk bs tags at j (k + 1) (length xs')))) less
              ∙ mapped_twice (child_rows walk bs tags at (n - (k + 1)) (k + 1) (length xs')) inv.done rs;
        }

module _ (bs : List ℕ) (before p tag : ℕ) where
  pub walk_none : (d : ℕ) → d ≡ 0 → walk_at d bs before p tag ≡ None
  unfolding walk_at
  walk_none zero e = refl
  walk_none (suc d) e = absurd (omega arith)

  pub walk_no_field : (d : ℕ) → None ≡ field_at bs p → walk_at d bs before p tag ≡ None
  unfolding walk_at
  walk_no_field zero e = refl
  walk_no_field (suc zero) e = ap (λ o. and_then o (λ f. field_rows (walk_at zero bs) None bs before tag f f.index)) (sym e)
  walk_no_field (suc (suc d)) e = ap (λ o. and_then o (λ f. field_rows (walk_at (suc d) bs) (Some (walk_at d bs)) bs before tag f f.index)) (sym e)

  module _ (f : Field) (e : Some f ≡ field_at bs p) where
    one : walk_at 1 bs before p tag ≡ field_rows (walk_at 0 bs) None bs before tag f f.index
    unfolding walk_at
    one = ap (λ o. and_then o (λ f. field_rows (walk_at zero bs) None bs before tag f f.index)) (sym e)

    more : (d : ℕ) → walk_at (suc (suc d)) bs before p tag ≡ field_rows (walk_at (suc d) bs) (Some (walk_at d bs)) bs before tag f f.index
    unfolding walk_at
    more d = ap (λ o. and_then o (λ f. field_rows (walk_at (suc d) bs) (Some (walk_at d bs)) bs before tag f f.index)) (sym e)

    pub walk_plain : (d : ℕ) → 0 < d → f.index ≡ None → walk_at d bs before p tag ≡ option_map (plain_rows before tag f.shape.row) (kids_of (walk_at (d - 1) bs) bs f (before + 1))
    walk_plain zero h i = absurd (omega arith)
    walk_plain (suc zero) h i = one ∙ ap (field_rows (walk_at 0 bs) None bs before tag f) i
    walk_plain (suc (suc d)) h i =
        let n : suc d ≡ suc (suc d) - 1 = omega arith in
        more d ∙ ap (field_rows (walk_at (suc d) bs) (Some (walk_at d bs)) bs before tag f) i ∙ ap (λ j. option_map (plain_rows before tag f.shape.row) (kids_of (walk_at j bs) bs f (before + 1))) n

    pub walk_flat : (d : ℕ) {i : Index} → d ≡ 1 → f.index ≡ Some i → walk_at d bs before p tag ≡ None
    walk_flat d h j = ap (λ k. walk_at k bs before p tag) h ∙ one ∙ ap (field_rows (walk_at 0 bs) None bs before tag f) j

    pub walk_indexed : (d : ℕ) {i : Index} → 1 < d → f.index ≡ Some i → walk_at d bs before p tag ≡ option_map (index_rows before tag i f.shape.row) (kids_of (walk_at (d - 2) bs) bs f (before + 2))
    walk_indexed zero h j = absurd (omega arith)
    walk_indexed (suc zero) h j = absurd (omega arith)
    walk_indexed (suc (suc d)) {i} h j =
        let n : d ≡ suc (suc d) - 2 = omega arith in
        more d ∙ ap (field_rows (walk_at (suc d) bs) (Some (walk_at d bs)) bs before tag f) j ∙ ap (λ k. option_map (index_rows before tag i f.shape.row) (kids_of (walk_at k bs) bs f (before + 2))) n

-- m rows are kept at the front of a field's own, its children's are read behind them, and then they are put there
module _ (kids : ℕ → Option (List Row)) (rows_by : List Row → List Row) (m : ℕ) (long : (ks : List Row) → length (rows_by ks) ≡ m + length ks) (xs : List Row) where
  module _ (xs₁ : List Row) (kept : length xs₁ ≡ length xs + m) where
    pub kids_read : (xs₂ xs₃ : List Row) (got : Reads (kids (length xs₁)) (Ok tt) xs₁ xs₂) → xs₃ ≡ xs ++ rows_by got.0 → Reads (option_map rows_by (kids (length xs + m))) (Ok tt) xs xs₃
    kids_read xs₂ xs₃ got e = (rows_by got.0, ap (option_map rows_by) (ap kids (sym kept) ∙ got.1), e)

module _ (xs xs₁ : List Row) (a : Row) (e : xs₁ ≡ xs ++ (a ∷ [])) where
  pub one_more : length xs₁ ≡ length xs + 1
  one_more = ap length e ∙ length-append xs (a ∷ [])

  -- the row that is kept, replaced
  pub one_put : (xs₂ ks : List Row) (own : ℕ) (row : Row) → xs₂ ≡ xs₁ ++ ks → own ≡ length xs → set xs₂ own row ≡ xs ++ (row ∷ ks)
  one_put xs₂ ks own row d o = ap (λ y. set y own row) (d ∙ ap (λ y. y ++ ks) e ∙ append_assoc xs (a ∷ []) ks) ∙ set_at xs a ks row own (sym o)

  module _ (xs₂ : List Row) (b : Row) (d : xs₂ ≡ xs₁ ++ (b ∷ [])) where
    pub two_more : length xs₂ ≡ length xs + 2
    two_more = let p = one_more in let q = ap length d ∙ length-append xs₁ (b ∷ []) in omega arith

    pub two_put : (xs₃ ks : List Row) (own : ℕ) (row value : Row) → xs₃ ≡ xs₂ ++ ks → own ≡ length xs → set (set xs₃ own row) (own + 1) value ≡ xs ++ (row ∷ (value ∷ ks))
    two_put xs₃ ks own row value c o =
        let behind : xs₃ ≡ xs₁ ++ (b ∷ ks) = c ∙ ap (λ y. y ++ ks) d ∙ append_assoc xs₁ (b ∷ []) ks in
        let front : length (xs ++ (row ∷ [])) ≡ own + 1 = length-append xs (row ∷ []) ∙ ap (λ n. n + 1) (sym o) in
        ap (λ y. set y (own + 1) value) (one_put xs₃ (b ∷ ks) own row behind o ∙ sym (append_assoc xs (row ∷ []) (b ∷ ks)))
        ∙ set_at (xs ++ (row ∷ [])) b ks value (own + 1) front ∙ append_assoc xs (row ∷ []) (value ∷ ks)

-- a field without a dictionary: its own row is kept, and put there behind its children's
pub plain_read : (kids : ℕ → Option (List Row)) (tag : ℕ) (t : Typed) (xs xs₁ : List Row) (a : Row) → xs₁ ≡ xs ++ (a ∷ []) → (xs₂ xs₃ : List Row) (own n : ℕ) (row : Row) → Reads (kids (length xs₁)) (Ok tt) xs₁ xs₂ → own ≡ length xs → n ≡ length xs₂ → row ≡ row_of t tag (pos 0) n → xs₃ ≡ set xs₂ own row → Reads (option_map (plain_rows (length xs) tag t) (kids (length xs + 1))) (Ok tt) xs xs₃
plain_read kids tag t xs xs₁ a e xs₂ xs₃ own n row got o l r s =
    let long : n ≡ length xs + 1 + length got.0 = l ∙ ap length got.2 ∙ length-append xs₁ got.0 ∙ ap (λ k. k + length got.0) (one_more xs xs₁ a e) in
    kids_read kids (plain_rows (length xs) tag t) 1 (λ ks. omega arith) xs xs₁ (one_more xs xs₁ a e) xs₂ xs₃ got
    (s ∙ one_put xs xs₁ a e xs₂ got.0 own row got.2 o ∙ ap (λ y. xs ++ (y ∷ got.0)) (r ∙ ap (row_of t tag (pos 0)) long))

-- a dictionary field: two rows are kept, for its indices and its values
pub indexed_read : (kids : ℕ → Option (List Row)) (tag : ℕ) (i : Index) (t : Typed) (xs xs₁ : List Row) (a : Row) → xs₁ ≡ xs ++ (a ∷ []) → (xs₂ : List Row) (b : Row) → xs₂ ≡ xs₁ ++ (b ∷ []) → (xs₃ xs₄ xs₅ : List Row) (own n : ℕ) (row value : Row) → Reads (kids (length xs₂)) (Ok tt) xs₂ xs₃ → own ≡ length xs → n ≡ length xs₃ → row ≡ row_of i.row tag i.id n → value ≡ row_of t 0 (pos 0) n → xs₄ ≡ set xs₃ own row → xs₅ ≡ set xs₄ (own + 1) value → Reads (option_map (index_rows (length xs) tag i t) (kids (length xs + 2))) (Ok tt) xs xs₅
indexed_read kids tag i t xs xs₁ a e xs₂ b d xs₃ xs₄ xs₅ own n row value got o l r v s w =
    let two = two_more xs xs₁ a e xs₂ b d in
    let long : n ≡ length xs + 2 + length got.0 = l ∙ ap length got.2 ∙ length-append xs₂ got.0 ∙ ap (λ k. k + length got.0) two in
    kids_read kids (index_rows (length xs) tag i t) 2 (λ ks. omega arith) xs xs₂ two xs₃ xs₅ got
    (w ∙ ap (λ y. set y (own + 1) value) s ∙ two_put xs xs₁ a e xs₂ b d xs₃ got.0 own row value got.2 o
    ∙ ap (λ y. xs ++ (y ∷ (value ∷ got.0))) (r ∙ ap (row_of i.row tag i.id) long)
    ∙ ap (λ y. xs ++ (row_of i.row tag i.id (length xs + 2 + length got.0) ∷ (y ∷ got.0))) (v ∙ ap (row_of t 0 (pos 0)) long))
