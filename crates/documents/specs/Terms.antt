-- Terms (document 01, 'Terms and node tables'; 004, section 2): substitution, lifting, beta.
use Rattle.std.specs.Prelude.{ℕ, zero, suc}

-- A term and a list of terms are one data type, told apart by a sort: a data type cannot hold lists of itself.
pub data Sort : Type 0 where
  one many : Sort

pub data Tm : Sort → Type 0 where
  -- a variable with an index: 0 is the nearest abstraction
  Var : ℕ → Tm one
  -- a symbol with arguments
  Sym : ℕ → Tm many → Tm one
  -- a metavariable with arguments
  Meta : ℕ → Tm many → Tm one
  -- an abstraction over one term
  Abst : Tm one → Tm one
  Nil : Tm many
  Cons : Tm one → Tm many → Tm many

abbrev pub Term : Type 0
Term = Tm one

abbrev pub Terms : Type 0
Terms = Tm many

abbrev pub len : Terms → ℕ
len Nil = 0
len (Cons t ts) = suc (len ts)

-- A substitution of variables for variables. 004 defines `lift` by `subst`, and `subst` by `lift`; a renaming comes first here, so that
-- each is structural (law `lift_is`: 004's clause holds).
abbrev pub rename_under : (ℕ → ℕ) → ℕ → ℕ
rename_under f zero = zero
rename_under f (suc n) = suc (f n)

abbrev pub rename : {s : Sort} → (ℕ → ℕ) → Tm s → Tm s
rename f (Var x) = Var (f x)
rename f (Sym s ts) = Sym s (rename f ts)
rename f (Meta z ts) = Meta z (rename f ts)
rename f (Abst t) = Abst (rename (rename_under f) t)
rename f Nil = Nil
rename f (Cons t ts) = Cons (rename f t) (rename f ts)

abbrev pub lift : {s : Sort} → Tm s → Tm s
lift t = rename suc t

-- fn n => if n=0 then Var 0 else lift (f(n-1))
abbrev pub subst_under : (ℕ → Term) → ℕ → Term
subst_under f zero = Var zero
subst_under f (suc n) = lift (f n)

abbrev pub subst : {s : Sort} → (ℕ → Term) → Tm s → Tm s
subst f (Var x) = f x
subst f (Sym s ts) = Sym s (subst f ts)
subst f (Meta z ts) = Meta z (subst f ts)
subst f (Abst t) = Abst (subst (subst_under f) t)
subst f Nil = Nil
subst f (Cons t ts) = Cons (subst f t) (subst f ts)

-- fn 0 => arg | k => Var (k-1)
abbrev pub in_place : Term → ℕ → Term
in_place arg zero = arg
in_place arg (suc k) = Var k

-- What is no abstraction is an error in 004 and stays as it is here: the condition on valuations excludes it.
abbrev pub beta : Term → Term → Term
beta arg (Var x) = Var x
beta arg (Sym s ts) = Sym s ts
beta arg (Meta z ts) = Meta z ts
beta arg (Abst b) = subst (in_place arg) b

-- foldright beta: the first argument goes to the innermost abstraction
abbrev pub betas : Term → Terms → Term
betas u Nil = u
betas u (Cons t ts) = beta t (betas u ts)

-- repeat Abst k
abbrev pub absts : ℕ → Term → Term
absts zero t = t
absts (suc k) t = absts k (Abst t)
