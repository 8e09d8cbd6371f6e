-- What is known where a value that may be missing is there.
use Rattle.std.proofs.Common.{◌≡◌, ℕ, Some, None, Option, refl, arith}
use Rattle.std.specs.Option.{option_map}
use Rattle.little.specs.Maybe.{and_then}

pub mapped_is : {A B : Type 0} (f : A → B) (o : Option A) (y : B) → option_map f o ≡ Some y → (x : A) × (o ≡ Some x) × (y ≡ f x)
mapped_is f None y e = let z : ◌≡◌ {A = ℕ} 0 1 = cc in absurd (omega arith)
mapped_is f (Some x) y e = (x, refl, cc)

pub then_is : {A B : Type 0} (o : Option A) (f : A → Option B) (y : B) → and_then o f ≡ Some y → (x : A) × (o ≡ Some x) × (f x ≡ Some y)
then_is None f y e = let z : ◌≡◌ {A = ℕ} 0 1 = cc in absurd (omega arith)
then_is (Some x) f y e = (x, refl, e)

pub some_same : {A : Type 0} (x y : A) → Some x ≡ Some y → x ≡ y
some_same x y e = cc

pub none_some : {A : Type 0} (x : A) → None ≡ Some x → ⊥
none_some x e = let z : ◌≡◌ {A = ℕ} 0 1 = cc in omega arith
