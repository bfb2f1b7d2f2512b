-- Build code that the check follows has a step everywhere. The finished terms of each open block do not depend on OFFSET and NSTACK, which only
-- rename them, and each variable free in them is bound by an open LAMBDA or free in the subject. So a body makes one term under any OFFSET and
-- NSTACK, a PUSHI is Lemma 8's, and a PUSHIMM stands where nothing is renamed.
use mathlib.Core.Path.{◌≡◌, refl, sym, ap, ap₂, ◌∙◌}
use Prim.Native.Nat.{ℕ, zero, suc, ◌+◌, ◌-◌, ◌≤◌, ◌<◌}
use native.Mathlib.Nat.{le_of_suc-le-suc, not-suc-le-zero}
use native.Mathlib.Omega.{arith}
use mathlib.Core.Bool.{Bool, true, false, not, ◌||◌, cond}
use mathlib.Core.Option.{Option, some}
use mathlib.Core.List.{List, [], ◌∷◌, ◌++◌, map}
use lib.Dec.{T, eqb, leb, ltb, leb→le}
use lib.ListN.{length, length-map}
use borrow.Author.Tests.{eqb-true, leb-true, ltb-true}
use Rattle.documents.specs.Limits.{argument_limit, index_limit, d_shift}
use Rattle.documents.specs.Lists.{member, need}
use Rattle.documents.specs.Terms.{Var, Sym, Abst, Nil, Cons, Term, Terms, len, rename, subst}
use Rattle.documents.specs.Instructions.{Piece, instruction, program, bodies, Code, IS, ISABST, NEXT, CHECK, SET, EQVAR, EQIMM, EQI, CELL, LAMBDA, ADBMAL, PUSHVAR, PUSHIMM, PUSHI, End, ◌▸◌, None, Body, Instruction, Program, Bodies, keys}
use Rattle.documents.specs.Machine.{Current, Entry, entry, State, state, Outcome, done, ◌>>=◌, Action, split, pushi, exec}
use Rattle.documents.specs.Translation.{offset, keyed}
use Rattle.documents.specs.Passing.{open_limit, nest_limit, Slot, covers, blocks, one_more, one_term, build}
use Rattle.documents.proofs.Lists.{never, case, needed, and_then_is}
use Rattle.documents.proofs.Substitution.{rename_ext, rename_id, subst_rename, select}
use Rattle.documents.proofs.FreeVariables.{unders, AllFree, AllFree-map, free_both, free_subst, unders_below, unders_past, past_unders}
use Rattle.kahrs.proofs.RightSide.{offset_of, push_var_is, place, covered, RunsAll, pushi_is}
use Rattle.safety.proofs.Entries.{EntriesOk, Named, named, covered_of_covers}
use Rattle.safety.proofs.Asked.{push_asks, push_asked, one_term_lem, body_asked}

-- ---- Blocks: the finished terms of each open block, the innermost first, as they are before OFFSET and NSTACK rename them

abbrev pub Blocks : Type 0
Blocks = List (List Term)

-- NSTACK with the blocks B open, whatever they hold
abbrev pub opened : {A : Type 0} → List (List A) → List ℕ → List ℕ
opened [] nst = nst
opened (us ∷ B) nst = 0 ∷ opened B nst

-- STACK with the terms of the blocks on it
abbrev pub laid : ℕ → List ℕ → Blocks → List Term → List Term
laid off nst [] st = st
laid off nst (us ∷ B) st = map (rename (offset_of off (opened B nst))) us ++ laid off nst B st

-- the LAMBDAs that are open inside of the blocks B, where l are outside of them
abbrev pub level : {A : Type 0} → List (List A) → ℕ → ℕ
level [] l = l
level (us ∷ B) l = suc (level B l)

pub length_opened : {A : Type 0} (B : List (List A)) (nst : List ℕ) (l : ℕ) → length nst ≡ l → length (opened B nst) ≡ level B l
length_opened [] nst l e = e
length_opened (us ∷ B) nst l e = ap suc (length_opened B nst l e)

level_length : {A : Type 0} (B : List (List A)) (l : ℕ) → level B l ≡ l + length B
level_length [] l = omega arith
level_length (us ∷ B) l = let h = level_length B l in omega arith

pub level_is : {A : Type 0} (l : ℕ) (us : List A) (B : List (List A)) → l + blocks (map length (us ∷ B)) ≡ level B l
level_is l us B =
    let h = level_length B l in
    let k : length (map length B) ≡ length B = length-map B length in
    omega arith

opened_id : (B : Blocks) (x : ℕ) → offset_of 0 (opened B []) x ≡ x
opened_id [] x = omega arith
opened_id (us ∷ B) zero = refl
opened_id (us ∷ B) (suc x) = ap suc (opened_id B x)

-- outside of bodies nothing is renamed
abbrev pub Still : Bool → ℕ → List ℕ → Type 0
Still true off nst = Unit {0}
Still false off nst = (off ≡ 0) × (nst ≡ [])

still_id : (inside : Bool) (off : ℕ) (nst : List ℕ) (B : Blocks) → not inside ≡ true → Still inside off nst → (x : ℕ) → offset_of off (opened B nst) x ≡ x
still_id true off nst B t s x = never (cc)
still_id false off nst B t s x = rw (s.0, s.1) (opened_id B x)

-- ---- CELL: n terms off a block

abbrev taken : ℕ → Terms → List Term → Terms
taken zero ts us = ts
taken (suc n) ts [] = ts
taken (suc n) ts (u ∷ us) = taken n (Cons u ts) us

abbrev left : ℕ → List Term → List Term
left zero us = us
left (suc n) [] = []
left (suc n) (u ∷ us) = left n us

split_block : (f : ℕ → ℕ) (n : ℕ) (ts : Terms) (us st : List Term) (k : Terms → List Term → Outcome State) → n ≤ length us
    → split n (rename f ts) (map (rename f) us ++ st) k ≡ k (rename f (taken n ts us)) (map (rename f) (left n us) ++ st)
split_block f zero ts us st k h = refl
split_block f (suc n) ts [] st k h = absurd (not-suc-le-zero h)
split_block f (suc n) ts (u ∷ us) st k h = split_block f n (Cons u ts) us st k (le_of_suc-le-suc h)

length_left : (n : ℕ) (us : List Term) → length (left n us) ≡ length us - n
length_left zero us = omega arith
length_left (suc n) [] = omega arith
length_left (suc n) (u ∷ us) = let h = length_left n us in omega arith

abbrev AllOf : (ℕ → Type 0) → List Term → Type 0
AllOf P [] = Unit {0}
AllOf P (u ∷ us) = AllFree P u × AllOf P us

taken_ok : (P : ℕ → Type 0) (n : ℕ) (ts : Terms) (us : List Term) → AllFree P ts → AllOf P us → AllFree P (taken n ts us)
taken_ok P zero ts us a h = a
taken_ok P (suc n) ts [] a h = a
taken_ok P (suc n) ts (u ∷ us) a h = taken_ok P n (Cons u ts) us (h.0, a) h.1

left_ok : (P : ℕ → Type 0) (n : ℕ) (us : List Term) → AllOf P us → AllOf P (left n us)
left_ok P zero us h = h
left_ok P (suc n) [] h = tt
left_ok P (suc n) (u ∷ us) h = left_ok P n us h.1

-- ---- PUSHI: the bodies behind their keys

abbrev pub programs : Bodies → List Program
programs None = []
programs (Body k c a) = c ∷ programs a

pub keyed_programs : (a : Bodies) → a ≡ keyed (keys a) (programs a)
keyed_programs None = refl
keyed_programs (Body k c a) = ap (Body k c) (keyed_programs a)

-- the counts after an instruction
pub counts_are : (h k : ℕ) (l hs : List ℕ) → some (h ∷ l) ≡ some hs → h ≡ k → hs ≡ k ∷ l
counts_are h k l hs e p = cc

module _ (Sub : ℕ → Type 0) where
  -- what stands for a variable of the entry has its free variables from the subject
  select_free : (l b : ℕ) (ks : List ℕ) (us : Terms) → length ks ≡ len us → AllFree (unders l Sub) us → (y : ℕ) → T (covered ks b y) → unders b Sub y
      → AllFree (unders l Sub) (select l us (place ks b y))
  select_free l b [] Nil e f y h p = unders_past Sub l (y - b) (past_unders Sub b y (leb→le b y h) p)
  select_free l b [] (Cons u us) e f y h p = absurd (omega arith)
  select_free l b (k ∷ ks) Nil e f y h p = absurd (omega arith)
  select_free l b (k ∷ ks) (Cons u us) e f y h p =
      case (λ q. T ((q || member ks y) || leb b y) → AllFree (unders l Sub) (select l (Cons u us) (cond q 0 (suc (place ks b y))))) (eqb k y)
      (λ t h. f.0) (λ t h. select_free l b ks us (omega arith) f.1 y h p) h

  abbrev pub BlocksOk : ℕ → Blocks → Type 0
  BlocksOk l [] = Unit {0}
  BlocksOk l (us ∷ B) = AllOf (unders (level B l) Sub) us × BlocksOk l B

  module _ (cs : List Current) (env : List Entry) where
    -- an action that goes from these blocks to blocks that the check counts as hs
    pub record Step (inside : Bool) (l : ℕ) (act : Action) (us : List Term) (B : Blocks) (hs : List ℕ) : Type 0 where
      pub top : List Term
      pub around : Blocks
      pub counted : hs ≡ map length (top ∷ around)
      pub good : BlocksOk l (top ∷ around)
      pub goes : (st : List Term) (off : ℕ) (nst : List ℕ) → Still inside off nst → length nst ≡ l
          → act (state cs env (laid off nst (us ∷ B) st) off (opened B nst)) ≡ done (state cs env (laid off nst (top ∷ around) st) off (opened around nst))

    -- bodies that make one term each
    pub record Made (l : ℕ) (a : Bodies) : Type 0 where
      pub terms : Terms
      pub arity : length (keys a) ≡ len terms
      pub runs : RunsAll cs env l (programs a) terms
      pub inside : AllFree (unders l Sub) terms

    -- a program that makes one term
    pub record Makes (inside : Bool) (l : ℕ) (c : Program) : Type 0 where
      pub term : Term
      pub free : AllFree (unders l Sub) term
      pub runs : (st : List Term) (off : ℕ) (nst : List ℕ) → Still inside off nst → length nst ≡ l
          → exec c (state cs env st off nst) ≡ done (state cs env (rename (offset_of off nst) term ∷ st) off nst)

    makes : (inside : Bool) (l : ℕ) (c : Program) → Step inside l (exec c) [] [] (1 ∷ []) → Makes inside l c
    makes inside l c s = go s.top s.around s.counted s.good s.goes
      where
        go : (us : List Term) (B : Blocks) → 1 ∷ [] ≡ map length (us ∷ B) → BlocksOk l (us ∷ B)
            → ((st : List Term) (off : ℕ) (nst : List ℕ) → Still inside off nst → length nst ≡ l
            → exec c (state cs env st off nst) ≡ done (state cs env (laid off nst (us ∷ B) st) off (opened B nst)))
            → Makes inside l c
        go us (b ∷ B) e f g = never (cc)
        go [] [] e f g = never (cc)
        go (u ∷ v ∷ us) [] e f g = never (cc)
        go (u ∷ []) [] e f g = record { term = u; free = f.0.0; runs = g }

    module _ (es : List Slot) (ok : EntriesOk Sub es env) where
      -- from blocks as the check counts them to blocks as it then counts them
      abbrev Follows : (Bool → ℕ → ℕ → List ℕ → Option (List ℕ)) → Action → Type 0
      Follows check act =
          (inside : Bool) (l nest : ℕ) (us : List Term) (B : Blocks) (hs : List ℕ) → check inside l nest (map length (us ∷ B)) ≡ some hs
          → BlocksOk l (us ∷ B) → Step inside l act us B hs

      abbrev pub Claim : (p : Piece) → Code p → Type 0
      Claim instruction i = Follows (λ inside l nest. build es inside l nest i) (exec i)
      Claim program c = Follows (λ inside l nest. build es inside l nest c) (exec c)
      Claim bodies a = (inside : Bool) (l nest : ℕ) → T (build es inside l nest a) → Made l a

      CELL-steps : (s n : ℕ) → Claim instruction (CELL s n)
      CELL-steps s n inside l nest us B hs e f =
          let q = needed (leb n (length us)) _ hs (needed (leb n argument_limit) _ hs (needed (leb s index_limit) _ hs e).1).1 in
          let h = leb-true n (length us) q.0 in
          record {
            top = Sym s (taken n Nil us) ∷ left n us;
            around = B;
            counted = counts_are (length us - n + 1) _ _ hs q.1 (let k = length_left n us in omega arith);
            good = ((taken_ok _ n Nil us tt f.0, left_ok _ n us f.0), f.1);
            goes = λ st off nst g el. split_block (offset_of off (opened B nst)) n Nil us (laid off nst B st) _ h;
          }

      LAMBDA-steps : Claim instruction LAMBDA
      LAMBDA-steps inside l nest us B hs e f =
          let q = needed (ltb (nest + blocks (map length (us ∷ B))) nest_limit) _ hs (needed (ltb (l + blocks (map length (us ∷ B))) open_limit) _ hs e).1 in
          record { top = []; around = us ∷ B; counted = counts_are 0 0 _ hs q.1 refl; good = (tt, f); goes = λ st off nst g el. refl }

      ADBMAL-steps : Claim instruction ADBMAL
      ADBMAL-steps inside l nest us [] hs e f = never (cc)
      ADBMAL-steps inside l nest us (b ∷ B) hs e f =
          let q = needed (eqb (length us) 1) _ hs e in
          go us f (eqb-true (length us) 1 q.0) (counts_are (length b + 1) (suc (length b)) _ hs q.1 (omega arith))
        where
          go : (us : List Term) → BlocksOk l (us ∷ b ∷ B) → length us ≡ 1 → hs ≡ suc (length b) ∷ map length B → Step inside l (exec ADBMAL) us (b ∷ B) hs
          go [] f e k = absurd (omega arith)
          go (u ∷ v ∷ us) f e k = absurd (omega arith)
          go (u ∷ []) f e k =
              record {
                top = Abst u ∷ b;
                around = B;
                counted = k;
                good = ((f.0.0, f.1.0), f.1.1);
                goes = λ st off nst g el.
                    ap (λ (w : Term). done (state cs env (Abst w ∷ laid off nst (b ∷ B) st) off (opened B nst)))
                    (rename_ext _ _ u (elim [ zero ↦ refl | suc x ↦ refl ]));
              }

      PUSHVAR-steps : (x : ℕ) → Claim instruction (PUSHVAR x)
      PUSHVAR-steps x inside l nest us B hs e f =
          let q = needed (ltb x (l + blocks (map length (us ∷ B)))) _ hs e in
          let h : x < level B l = rw (level_is l us B) at (ltb-true x _ q.0) in
          record {
            top = Var x ∷ us;
            around = B;
            counted = counts_are (length us + 1) _ _ hs q.1 (omega arith);
            good = ((unders_below Sub (level B l) x h, f.0), f.1);
            goes = λ st off nst g el. push_var_is cs env x _ off (opened B nst) (rw (length_opened B nst l el) h);
          }

      PUSHIMM-steps : (e : ℕ) → Claim instruction (PUSHIMM e)
      PUSHIMM-steps n inside l nest us B hs e f =
          let q = needed (not inside) _ hs e in
          let r = named Sub es env n (λ b g. need (eqb (l + blocks (map length (us ∷ B))) b) (one_more (map length (us ∷ B)))) hs ok q.1 in
          let k = needed (eqb (l + blocks (map length (us ∷ B))) r.b) _ hs r.says in
          let d : level B l ≡ r.b = sym (level_is l us B) ∙ eqb-true _ r.b k.0 in
          record {
            top = r.term ∷ us;
            around = B;
            counted = counts_are (length us + 1) _ _ hs k.1 (omega arith);
            good = ((rw d r.inside, f.0), f.1);
            goes = λ st off nst g el.
                rw r.here
                (ap (λ (w : Term). done (state cs env (w ∷ laid off nst (us ∷ B) st) off (opened B nst)))
                (sym (rename_ext _ (λ y. y) r.term (still_id inside off nst B q.0 g) ∙ rename_id r.term)));
          }

      PUSHI-steps : (e D : ℕ) (a : Bodies) → Claim bodies a → Claim instruction (PUSHI e D a)
      PUSHI-steps e D a made inside l nest us B hs w f =
          let m = map length (us ∷ B) in
          let r = named Sub es env e (push_asks es l nest D a m) hs ok w in
          let q = push_asked es l nest D a m hs r.b r.guard r.says in
          pushed (made true (l + blocks m) (nest + blocks m) q.bodies) (level_is l us B) r q.shift q.covered (counts_are (length us + 1) _ _ hs q.more (omega arith))
        where
          pushed : {n : ℕ} {A : ℕ → List ℕ → Option (List ℕ)} → Made n a → n ≡ level B l → (r : Named Sub env e A hs) → D + r.b ≡ n + d_shift
              → T (covers r.b r.guard (keys a)) → hs ≡ suc (length us) ∷ map length B → Step inside l (exec (PUSHI e D a)) us B hs
          pushed {n} p en r d c k =
              let b = r.b in
              let x = r.term in
              let h : AllFree (λ y. T (covered (keys a) b y)) x = AllFree-map _ _ x (λ y. covered_of_covers b r.guard (keys a) y c) r.outside in
              let dd : D ≡ offset n b = omega arith in
              let lo : b ≤ 64 = let q = r.low in omega arith in
              let z : AllFree (unders n Sub) (subst (select n p.terms) (rename (place (keys a) b) x)) =
              rw (subst_rename (select n p.terms) (place (keys a) b) x)
              (free_subst _ _ x (free_both _ _ _ x (λ y u i. select_free n b (keys a) p.terms p.arity p.inside y i u) r.inside h))
              in
              record {
                top = subst (select n p.terms) (rename (place (keys a) b) x) ∷ us;
                around = B;
                counted = k;
                good = ((rw (← en) z, f.0), f.1);
                goes = λ st off nst g el.
                    rw r.here
                    (ap₂ (λ (y : Bodies) (m : ℕ). pushi (exec y) (keys y) m (entry b x) (state cs env (laid off nst (us ∷ B) st) off (opened B nst))) (keyed_programs a) dd
                    ∙ pushi_is cs env n b off (opened B nst) (keys a) (programs a) p.terms x _ (length_opened B nst l el ∙ sym en) lo p.runs p.arity h);
              }

      steps_then : (i : Instruction) (c : Program) (inside : Bool) (l : ℕ) (us : List Term) (B : Blocks) (hs ks : List ℕ)
          → (s : Step inside l (exec i) us B hs) → Step inside l (exec c) s.top s.around ks → Step inside l (exec (i ▸ c)) us B ks
      steps_then i c inside l us B hs ks s t =
          record {
            top = t.top;
            around = t.around;
            counted = t.counted;
            good = t.good;
            goes = λ st off nst g el. ap (λ r. r >>= exec c) (s.goes st off nst g el) ∙ t.goes st off nst g el;
          }

      -- what the check says of code comes true
      pub builds_as_checked : {p : Piece} (c : Code p) → Claim p c
      builds_as_checked (IS s n) = λ inside l nest us B hs e f. never (cc)
      builds_as_checked ISABST = λ inside l nest us B hs e f. never (cc)
      builds_as_checked NEXT = λ inside l nest us B hs e f. never (cc)
      builds_as_checked (CHECK vs) = λ inside l nest us B hs e f. never (cc)
      builds_as_checked SET = λ inside l nest us B hs e f. never (cc)
      builds_as_checked (EQVAR x) = λ inside l nest us B hs e f. never (cc)
      builds_as_checked (EQIMM n) = λ inside l nest us B hs e f. never (cc)
      builds_as_checked (EQI n D ps) = λ inside l nest us B hs e f. never (cc)
      builds_as_checked (CELL s n) = CELL-steps s n
      builds_as_checked LAMBDA = LAMBDA-steps
      builds_as_checked ADBMAL = ADBMAL-steps
      builds_as_checked (PUSHVAR x) = PUSHVAR-steps x
      builds_as_checked (PUSHIMM n) = PUSHIMM-steps n
      builds_as_checked (PUSHI n D a) = PUSHI-steps n D a (builds_as_checked a)
      builds_as_checked End = λ inside l nest us B hs e f.
          record { top = us; around = B; counted = counts_are (length us) _ _ hs e refl; good = f; goes = λ st off nst g el. refl }
      builds_as_checked (i ▸ c) = λ inside l nest us B hs e f.
          let q = and_then_is (build es inside l nest i (map length (us ∷ B))) _ hs e in
          let s = builds_as_checked i inside l nest us B q.0 q.1 f in
          steps_then i c inside l us B q.0 hs s (builds_as_checked c inside l nest s.top s.around hs (rw s.counted at q.2) s.good)
      builds_as_checked None = λ inside l nest t. record { terms = Nil; arity = refl; runs = tt; inside = tt }
      builds_as_checked (Body k c a) = λ inside l nest t.
          let q = body_asked es inside l nest k c a t in
          let m = makes true l c (builds_as_checked c true l (nest + 1) [] [] (1 ∷ []) q.0 (tt, tt)) in
          let r = builds_as_checked a inside l nest q.1 in
          record {
            terms = Cons m.term r.terms;
            arity = ap suc r.arity;
            runs = (λ st off nst e. m.runs st off nst tt e, r.runs);
            inside = (m.free, r.inside);
          }

      -- code of which the check says that it makes exactly one term
      pub makes_one_term : (inside : Bool) (l nest : ℕ) (c : Program) → T (one_term (build es inside l nest c (0 ∷ []))) → Makes inside l c
      makes_one_term inside l nest c t = makes inside l c (builds_as_checked c inside l nest [] [] (1 ∷ []) (one_term_lem _ t) (tt, tt))
