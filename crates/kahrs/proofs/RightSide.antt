-- 004's Lemma 8: the code of a right side leaves the instance of that side on STACK, moved by OFFSET and NSTACK, and all else as it was.
-- `Runs` holds for every OFFSET and NSTACK, so a body composes with the walk of the entry that it is met in.
use mathlib.Core.Path.{◌≡◌, refl, sym, ap, ap₂, ◌∙◌, fun_ext}
use Prim.Native.Nat.{ℕ, zero, suc, ◌+◌, ◌-◌, ◌≤◌, ◌<◌}
use native.Mathlib.Nat.{le_of_suc-le-suc, not-suc-le-zero}
use native.Mathlib.Omega.{arith}
use mathlib.Core.Bool.{Bool, true, false, not, ◌&&◌, ◌||◌, cond}
use mathlib.Core.Option.{Option, some}
use mathlib.Core.List.{List, [], ◌∷◌, map}
use lib.Dec.{T, eqb, leb, leb→le, le→leb}
use lib.ListN.{length, get_elem?, length-map}
use Rattle.documents.specs.Limits.{d_shift}
use Rattle.documents.specs.Lists.{every, member}
use Rattle.documents.specs.Terms.{Sort, one, many, Tm, Var, Sym, Meta, Abst, Nil, Cons, Term, Terms, len, rename, subst}
use Rattle.documents.specs.Rules.{Val, freevars}
use Rattle.documents.specs.Instructions.{ADBMAL, End, ◌▸◌, Program, keys}
use Rattle.documents.specs.Machine.{Current, Entry, entry, State, state, Outcome, done, fails, no_step, ◌>>=◌, Action, placed, push_free, pushi, push_var, exec}
use Rattle.documents.specs.Translation.{Row, row, located, lookup, ◌⧺◌, offset, Built, joined, keyed, rhs_meta, rhs}
use Rattle.documents.proofs.Substitution.{rename_ext, rename_rename, subst_rename, rename_subst, len_rename, select}
use Rattle.documents.proofs.Valuations.{instance, len_instance}
use Rattle.documents.proofs.Lists.{on, and_of}
use Rattle.documents.proofs.FreeVariables.{AllFree, AllFree-map, every_of_free}
use Rattle.documents.proofs.Machine.{onto, cell_onto, Gives, push_is}
use Rattle.documents.proofs.Translation.{keys_keyed}

-- ---- 004's offset(), as a renaming

abbrev pub offset_of : ℕ → List ℕ → ℕ → ℕ
offset_of off [] x = x + off
offset_of off (k ∷ nst) zero = k
offset_of off (k ∷ nst) (suc x) = suc (offset_of off nst x)

pub offset_raise : (n off : ℕ) (nst : List ℕ) (x : ℕ) → offset_of (off + n) (map (λ y. y + n) nst) x ≡ n + offset_of off nst x
offset_raise n off [] x = omega arith
offset_raise n off (k ∷ nst) zero = omega arith
offset_raise n off (k ∷ nst) (suc x) = let h = offset_raise n off nst x in omega arith

-- past the LAMBDAs that are open, OFFSET alone counts
pub offset_past : (off : ℕ) (nst : List ℕ) (n x : ℕ) → length nst ≡ n → offset_of off nst (n + x) ≡ n + (x + off)
offset_past off [] zero x e = omega arith
offset_past off [] (suc n) x e = absurd (omega arith)
offset_past off (k ∷ nst) zero x e = absurd (omega arith)
offset_past off (k ∷ nst) (suc n) x e =
    let z : suc n + x ≡ suc (n + x) = omega arith in
    let h = offset_past off nst n x (omega arith) in
    rw z (omega arith)

lower_raise : (n : ℕ) (l : List ℕ) → map (λ y. y - n) (map (λ y. y + n) l) ≡ l
lower_raise n [] = refl
lower_raise n (y ∷ l) = ap₂ {C = List ℕ} ◌∷◌ (omega arith) (lower_raise n l)

offset_at : (x off : ℕ) (nst : List ℕ) → x < length nst → (k : ℕ) × (get_elem? nst x ≡ some k) × (x + k ≡ offset_of off nst x)
offset_at x off [] h = absurd (not-suc-le-zero h)
offset_at zero off (k ∷ nst) h = (k, refl, omega arith)
offset_at (suc x) off (k ∷ nst) h = let r = offset_at x off nst (le_of_suc-le-suc h) in (r.0, r.1, omega (arith, r.2))

pub push_var_is : (cs : List Current) (env : List Entry) (x : ℕ) (st : List Term) (off : ℕ) (nst : List ℕ) → x < length nst
    → push_var x (state cs env st off nst) ≡ done (state cs env (Var (offset_of off nst x) ∷ st) off nst)
push_var_is cs env x st off nst h = let r = offset_at x off nst h in rw (r.1, r.2)

-- ---- Programs one after the other

pub bind_assoc : {A B C : Type 0} (m : Outcome A) (f : A → Outcome B) (g : B → Outcome C) → (m >>= f) >>= g ≡ m >>= (λ a. f a >>= g)
bind_assoc (done a) f g = refl
bind_assoc fails f g = refl
bind_assoc no_step f g = refl

pub exec-⧺ : (c d : Program) (σ : State) → exec (c ⧺ d) σ ≡ exec c σ >>= exec d
exec-⧺ End d σ = refl
exec-⧺ (i ▸ c) d σ = ap (λ (f : Action). exec i σ >>= f) (fun_ext (exec-⧺ c d)) ∙ sym (bind_assoc (exec i σ) _ _)

-- ---- The place of a variable of an entry under b abstractions, whose first occurrence has the arguments l

-- among the arguments, or past them
abbrev pub place : List ℕ → ℕ → ℕ → ℕ
place [] b y = y - b
place (a ∷ l) b y = cond (eqb a y) 0 (suc (place l b y))

-- Definition 5: an argument, or not below b
abbrev pub covered : List ℕ → ℕ → ℕ → Bool
covered l b y = member l y || leb b y

pub placed_of_covered : (ks : List ℕ) (b D n y : ℕ) → D + b ≡ n + d_shift → T (covered ks b y) → T (placed ks b D y)
placed_of_covered ks b D n y e h = go (member ks y) h
  where
    go : (q : Bool) → T (q || leb b y) → T (q || (leb b y && leb d_shift (y + D)))
    go true h = tt
    go false h =
        let k = leb→le b y h in
        and_of (leb b y) (leb d_shift (y + D)) h (le→leb d_shift (y + D) (omega arith))

-- ---- Bodies

module _ (cs : List Current) (env : List Entry) where
  -- c, with n open LAMBDAs, pushes u as OFFSET and NSTACK move it
  abbrev pub Runs : ℕ → Program → Term → Type 0
  Runs n c u = (st : List Term) (off : ℕ) (nst : List ℕ) → length nst ≡ n
      → exec c (state cs env st off nst) ≡ done (state cs env (rename (offset_of off nst) u ∷ st) off nst)

  abbrev pub RunsAll : ℕ → List Program → Terms → Type 0
  RunsAll n [] Nil = Unit {0}
  RunsAll n [] (Cons u us) = ⊥
  RunsAll n (c ∷ ds) Nil = ⊥
  RunsAll n (c ∷ ds) (Cons u us) = Runs n c u × RunsAll n ds us

  abbrev pub RunsBuilt : (s : Sort) → ℕ → Built s → Tm s → Type 0
  RunsBuilt one n c u = Runs n c u
  RunsBuilt many n ds us = RunsAll n ds us

  runs_joined : (n : ℕ) (ds : List Program) (us : Terms) (d : Program) (st : List Term) (off : ℕ) (nst : List ℕ) → RunsAll n ds us → length nst ≡ n
      → exec (joined ds d) (state cs env st off nst) ≡ exec d (state cs env (onto many (rename (offset_of off nst) us) st) off nst)
  runs_joined n [] Nil d st off nst h e = refl
  runs_joined n [] (Cons u us) d st off nst h e = absurd h
  runs_joined n (c ∷ ds) Nil d st off nst h e = absurd h
  runs_joined n (c ∷ ds) (Cons u us) d st off nst h e =
      exec-⧺ c (joined ds d) _ ∙ ap (λ r. r >>= exec (joined ds d)) (h.0 st off nst e) ∙ runs_joined n ds us d _ off nst h.1 e

  -- a body, run where the walk of the entry met its key under m abstractions
  body_runs : (n m : ℕ) (c : Program) (u : Term) (D x : ℕ) (st : List Term) (off : ℕ) (nst : List ℕ) → Runs n c u → length nst ≡ n
      → push_free (some (exec c)) D m x (state cs env st off nst) ≡ done (state cs env (rename (λ z. m + z) (rename (offset_of off nst) u) ∷ st) off nst)
  body_runs n m c u D x st off nst r e =
      let k : off + m - m ≡ off = omega arith in
      rw (r st (off + m) (map (λ z. z + m) nst) (length-map nst (λ z. z + m) ∙ e), k, lower_raise m nst, rename_rename (λ z. m + z) (offset_of off nst) u)
      (ap (λ (t : Term). done (state cs env (t ∷ st) off nst)) (rename_ext _ _ u (offset_raise m off nst)))

  -- one body more before those of `o`: at its own key, and at another one
  body_first : (q : Bool) (n m : ℕ) (c : Program) (u : Term) (us : Terms) (o : Option Action) (D x i : ℕ) (st : List Term) (off : ℕ) (nst : List ℕ)
      → Runs n c u → length nst ≡ n
      → (T (not q) → push_free o D m x (state cs env st off nst) ≡ done (state cs env (rename (λ z. m + z) (rename (offset_of off nst) (select n us i)) ∷ st) off nst))
      → push_free (cond q (some (exec c)) o) D m x (state cs env st off nst)
      ≡ done (state cs env (rename (λ z. m + z) (rename (offset_of off nst) (select n (Cons u us) (cond q 0 (suc i)))) ∷ st) off nst)
  body_first true n m c u us o D x i st off nst r e k = body_runs n m c u D x st off nst r e
  body_first false n m c u us o D x i st off nst r e k = k tt

  -- the bodies of a PUSHI at a variable y of the entry: the body of its key, or the variable moved by d
  pub keyed_gives : (n b off : ℕ) (nst : List ℕ) (l : List ℕ) (ds : List Program) (us : Terms) → length nst ≡ n → b ≤ 64 → RunsAll n ds us → length l ≡ len us
      → (y : ℕ) → T (covered l b y) → Gives (exec (keyed l ds)) (offset n b) cs env off nst (λ x. rename (offset_of off nst) (select n us (place l b x))) y
  keyed_gives n b off nst [] [] Nil e lo r el y h m st =
      let k = leb→le b y h in
      rw (offset_past off nst n (y - b) e)
      (ap (λ (x : ℕ). done (state cs env (Var x ∷ st) off nst)) (omega arith))
  keyed_gives n b off nst [] [] (Cons u us) e lo r el y h m st = absurd r
  keyed_gives n b off nst [] (c ∷ ds) Nil e lo r el y h m st = absurd r
  keyed_gives n b off nst [] (c ∷ ds) (Cons u us) e lo r el y h m st = absurd (omega arith)
  keyed_gives n b off nst (a ∷ l) [] Nil e lo r el y h m st = absurd (omega arith)
  keyed_gives n b off nst (a ∷ l) [] (Cons u us) e lo r el y h m st = absurd r
  keyed_gives n b off nst (a ∷ l) (c ∷ ds) Nil e lo r el y h m st = absurd r
  keyed_gives n b off nst (a ∷ l) (c ∷ ds) (Cons u us) e lo r el y h m st =
      body_first (eqb a y) n m c u us (exec (keyed l ds) y) (offset n b) (m + y) (place l b y) st off nst r.0 e
      (λ q. keyed_gives n b off nst l ds us e lo r.1 (omega arith) y (other (eqb a y) (member l y) (leb b y) h q) m st)
    where
      other : (q p s : Bool) → T ((q || p) || s) → T (not q) → T (p || s)
      other true p s h q = absurd q
      other false p s h q = h

module _ (cs : List Current) (env : List Entry) where
  length_runs : (n : ℕ) (ds : List Program) (us : Terms) → RunsAll cs env n ds us → length ds ≡ len us
  length_runs n [] Nil r = refl
  length_runs n [] (Cons u us) r = absurd r
  length_runs n (c ∷ ds) Nil r = absurd r
  length_runs n (c ∷ ds) (Cons u us) r = ap suc (length_runs n ds us r.1)

  -- a PUSHI of the entry a: the substitution that 004's Lemma 6 describes, moved by OFFSET and NSTACK
  pub pushi_is : (n b off : ℕ) (nst l : List ℕ) (ds : List Program) (us : Terms) (a : Term) (st : List Term)
      → length nst ≡ n → b ≤ 64 → RunsAll cs env n ds us → length l ≡ len us → AllFree (λ y. T (covered l b y)) a
      → pushi (exec (keyed l ds)) (keys (keyed l ds)) (offset n b) (entry b a) (state cs env st off nst)
      ≡ done (state cs env (rename (offset_of off nst) (subst (select n us) (rename (place l b) a)) ∷ st) off nst)
  pushi_is n b off nst l ds us a st el lo r e h =
      let ks = keys_keyed l ds (e ∙ sym (length_runs n ds us r)) in
      let all : T (every (placed l b (offset n b)) (freevars a)) =
      every_of_free (placed l b (offset n b)) 0 a (AllFree-map _ _ a (λ y. placed_of_covered l b (offset n b) n y (omega arith)) h)
      in
      rw (ks, on (every (placed l b (offset n b)) (freevars a)) all)
      (push_is (exec (keyed l ds)) (offset n b) cs env off nst (λ y. rename (offset_of off nst) (select n us (place l b y))) 0 a st
      (AllFree-map _ _ a (keyed_gives cs env n b off nst l ds us el lo r e) h)
      ∙ ap (λ (t : Term). done (state cs env (t ∷ st) off nst))
      (sym (ap (rename (offset_of off nst)) (subst_rename (select n us) (place l b) a) ∙ rename_subst (offset_of off nst) _ a)))

-- ---- Lemma 8

-- how the entries cover a metavariable (004's Definition 5), and which body the valuation has for it (its getval)
pub record Covers (env : List Entry) (tab : List Row) (val : Val) (z k : ℕ) : Type 0 where
  pub location : ℕ
  pub b : ℕ
  pub arguments : List ℕ
  pub term : Term
  pub found : lookup z k tab ≡ some (located location (row z k b arguments))
  pub here : get_elem? env location ≡ some (entry b term)
  pub arity : length arguments ≡ k
  pub low : b ≤ 64
  pub inside : AllFree (λ y. T (covered arguments b y)) term
  pub value : val z k ≡ rename (place arguments b) term

abbrev pub AllMetas : {s : Sort} → (ℕ → ℕ → Type 0) → Tm s → Type 0
AllMetas P (Var x) = Unit {0}
AllMetas P (Sym s ts) = AllMetas P ts
AllMetas P (Meta z ts) = P z (len ts) × AllMetas P ts
AllMetas P (Abst t) = AllMetas P t
AllMetas P Nil = Unit {0}
AllMetas P (Cons t ts) = AllMetas P t × AllMetas P ts

-- the free variables lie below n
abbrev pub Below : {s : Sort} → ℕ → Tm s → Type 0
Below n t = AllFree (λ x. x < n) t

pub below_abst : (n : ℕ) (t : Term) → Below n (Abst t) → Below (suc n) t
below_abst n t a = AllFree-map _ _ t (elim [ zero ↦ λ u. omega arith | suc k ↦ λ h. omega arith ]) a

module _ (cs : List Current) (env : List Entry) (tab : List Row) (val : Val) where
  meta_runs : (n z : ℕ) (ts : Terms) (ds : List Program) (us : Terms) → Covers env tab val z (len ts) → len us ≡ len ts → RunsAll cs env n ds us
      → Runs cs env n (rhs_meta n ds (lookup z (len ts) tab)) (subst (select n us) (val z (len ts)))
  meta_runs n z ts ds us c e r st off nst el =
      rw (c.found, c.value, c.here)
      (ap (λ r. r >>= (λ σ. done σ)) (pushi_is cs env n c.b off nst c.arguments ds us c.term st el c.low r (c.arity ∙ sym e) c.inside))

  pub rhs_runs : {s : Sort} (n : ℕ) (t : Tm s) → Below n t → AllMetas (Covers env tab val) t → RunsBuilt cs env s n (rhs tab n t) (instance n val t)
  rhs_runs n (Var x) h c = λ st off nst e. ap (λ r. r >>= (λ σ. done σ)) (push_var_is cs env x st off nst (omega arith))
  rhs_runs n (Sym s ts) h c = λ st off nst e.
      runs_joined cs env n (rhs tab n ts) _ _ st off nst (rhs_runs n ts h c) e
      ∙ ap (λ r. r >>= (λ σ. done σ)) (cell_onto cs env off nst (Sym s) _ (len ts) (len_rename (offset_of off nst) (instance n val ts) ∙ len_instance n val ts) st)
  rhs_runs n (Meta z ts) h c = meta_runs n z ts _ _ c.0 (len_instance n val ts) (rhs_runs n ts h c.1)
  rhs_runs n (Abst t) h c = λ st off nst e.
      exec-⧺ (rhs tab (suc n) t) (ADBMAL ▸ End) (state cs env st off (0 ∷ nst))
      ∙ ap (λ r. r >>= exec (ADBMAL ▸ End)) (rhs_runs (suc n) t (below_abst n t h) c st off (0 ∷ nst) (ap suc e))
      ∙ ap (λ (u : Term). done (state cs env (Abst u ∷ st) off nst)) (rename_ext _ _ (instance (suc n) val t) (elim [ zero ↦ refl | suc x ↦ refl ]))
  rhs_runs n Nil h c = tt
  rhs_runs n (Cons t ts) h c = (rhs_runs n t h.0 c.0, rhs_runs n ts h.1 c.1)
