-- Build code that the check follows makes, on STACK, the terms of the trees that `grown` makes of it. The blocks that are open hold trees here;
-- `grown` has them on one stack, and the check counts those of each block, so no instruction reaches out of its own. The terms do not depend on
-- OFFSET and NSTACK, which only rename them (safety's Building says the same of terms that it does not name).
use mathlib.Core.Path.{◌≡◌, refl, sym, ap, ap₂, ◌∙◌}
use Prim.Native.Nat.{ℕ, zero, suc, ◌+◌, ◌-◌, ◌≤◌, ◌<◌}
use native.Mathlib.Nat.{le_of_suc-le-suc, not-suc-le-zero}
use native.Mathlib.Omega.{arith}
use mathlib.Core.Bool.{Bool, true, false, not}
use mathlib.Core.Option.{Option, some}
use mathlib.Core.List.{List, [], ◌∷◌, ◌++◌, map}
use lib.Dec.{T, eqb, leb, ltb}
use lib.ListN.{length, get_elem?}
use borrow.Author.Tests.{eqb-true, leb-true, ltb-true}
use Rattle.documents.specs.Limits.{argument_limit, index_limit, d_shift}
use Rattle.documents.specs.Lists.{need}
use Rattle.documents.specs.Terms.{one, many, Abst, Term, Terms, len, rename, subst}
use Rattle.documents.specs.Instructions.{Piece, instruction, program, bodies, Code, IS, ISABST, NEXT, CHECK, SET, EQVAR, EQIMM, EQI, CELL, LAMBDA, ADBMAL, PUSHVAR, PUSHIMM, PUSHI, End, ◌▸◌, None, Body, Instruction, Program, Bodies, keys}
use Rattle.documents.specs.Machine.{Current, Entry, entry, State, state, Outcome, done, ◌>>=◌, Action, split, pushi, exec}
use Rattle.documents.specs.Translation.{offset}
use Rattle.documents.specs.Passing.{open_limit, nest_limit, Slot, covers, blocks, one_more, one_term, build}
use Rattle.documents.proofs.Lists.{never, T_of, needed, and_then_is}
use Rattle.documents.proofs.Substitution.{rename_ext, rename_id, subst_rename, subst_ext, select}
use Rattle.documents.proofs.FreeVariables.{AllFree, AllFree-map}
use Rattle.kahrs.proofs.RightSide.{offset_of, push_var_is, place, covered, RunsAll, pushi_is}
use Rattle.safety.proofs.Entries.{EntriesOk, Named, named, covered_of_covers}
use Rattle.safety.proofs.Asked.{push_asks, push_asked, one_term_lem, body_asked}
use Rattle.safety.proofs.Building.{opened, level, length_opened, level_is, programs, keyed_programs, counts_are}
use Rattle.trees.specs.Trees.{Tree, Cell, Block, Bound, Whole, Pushed, Leaf, More, count, taken, left, top_of, grown}
use Rattle.trees.proofs.Values.{depth_at, instead, select_place, value, len_value, Good}
use Rattle.trees.proofs.Words.{Quiet, quiet_under}

-- ---- Blocks: the trees of each open block, the innermost first

abbrev pub Blocks : Type 0
Blocks = List (List (Tree one))

-- as `grown` has them
abbrev pub flat : Blocks → List (Tree one)
flat [] = []
flat (ps ∷ B) = ps ++ flat B

quiet_opened : (inside : Bool) (off : ℕ) (nst : List ℕ) (B : Blocks) → Quiet inside off nst → Quiet inside off (opened B nst)
quiet_opened inside off nst [] q = q
quiet_opened inside off nst (ps ∷ B) q = quiet_under inside off (opened B nst) (quiet_opened inside off nst B q)

not_moved : (inside : Bool) (off : ℕ) (nst : List ℕ) (t : Term) → not inside ≡ true → Quiet inside off nst → rename (offset_of off nst) t ≡ t
not_moved true off nst t e q = never (cc)
not_moved false off nst t e q = rename_ext _ (λ x. x) t q ∙ rename_id t

-- ---- CELL: n trees off a block

pub length_left : (n : ℕ) (ps : List (Tree one)) → length (left n ps) ≡ length ps - n
length_left zero ps = omega arith
length_left (suc n) [] = omega arith
length_left (suc n) (p ∷ ps) = let h = length_left n ps in omega arith

pub taken_of_block : (n : ℕ) (qs : Tree many) (ps rest : List (Tree one)) → n ≤ length ps → taken n qs (ps ++ rest) ≡ taken n qs ps
taken_of_block zero qs ps rest h = refl
taken_of_block (suc n) qs [] rest h = absurd (not-suc-le-zero h)
taken_of_block (suc n) qs (p ∷ ps) rest h = taken_of_block n (More p qs) ps rest (le_of_suc-le-suc h)

pub left_of_block : (n : ℕ) (ps rest : List (Tree one)) → n ≤ length ps → left n (ps ++ rest) ≡ left n ps ++ rest
left_of_block zero ps rest h = refl
left_of_block (suc n) [] rest h = absurd (not-suc-le-zero h)
left_of_block (suc n) (p ∷ ps) rest h = left_of_block n ps rest (le_of_suc-le-suc h)

-- ---- PUSHI: its term by 004's Lemma 8 is its tree's

pushed_value : (n b D : ℕ) (ks : List ℕ) (us : Terms) (x a : Term) → b ≡ depth_at n D → x ≡ a → length ks ≡ len us
    → subst (select n us) (rename (place ks b) x) ≡ subst (instead n (depth_at n D) ks us) a
pushed_value n b D ks us x a p q e =
    subst_rename (select n us) (place ks b) x ∙ subst_ext _ _ x (select_place n b ks us e)
    ∙ ap₂ (λ (c : ℕ) (y : Term). subst (instead n c ks us) y) p q

module _ (ent : ℕ → Term) where
  -- the term of a tree, as OFFSET and NSTACK rename it
  abbrev pub laid_one : ℕ → List ℕ → ℕ → Tree one → Term
  laid_one off nst l p = rename (offset_of off nst) (value ent l p)

  -- STACK with the terms of the blocks on it
  abbrev pub laid : ℕ → ℕ → List ℕ → Blocks → List Term → List Term
  laid l off nst [] st = st
  laid l off nst (ps ∷ B) st = map (laid_one off (opened B nst) (level B l)) ps ++ laid l off nst B st

  split_block : (off : ℕ) (nst : List ℕ) (l n : ℕ) (qs : Tree many) (ps : List (Tree one)) (st : List Term) (k : Terms → List Term → Outcome State) → n ≤ length ps
      → split n (rename (offset_of off nst) (value ent l qs)) (map (laid_one off nst l) ps ++ st) k
      ≡ k (rename (offset_of off nst) (value ent l (taken n qs ps))) (map (laid_one off nst l) (left n ps) ++ st)
  split_block off nst l zero qs ps st k h = refl
  split_block off nst l (suc n) qs [] st k h = absurd (not-suc-le-zero h)
  split_block off nst l (suc n) qs (p ∷ ps) st k h = split_block off nst l n (More p qs) ps st k (le_of_suc-le-suc h)

  abbrev pub AllGood : Bool → ℕ → List (Tree one) → Type 0
  AllGood inside l [] = Unit {0}
  AllGood inside l (p ∷ ps) = Good ent inside l p × AllGood inside l ps

  taken_good : (inside : Bool) (l n : ℕ) (qs : Tree many) (ps : List (Tree one)) → Good ent inside l qs → AllGood inside l ps → Good ent inside l (taken n qs ps)
  taken_good inside l zero qs ps g h = g
  taken_good inside l (suc n) qs [] g h = g
  taken_good inside l (suc n) qs (p ∷ ps) g h = taken_good inside l n (More p qs) ps (h.0, g) h.1

  left_good : (inside : Bool) (l n : ℕ) (ps : List (Tree one)) → AllGood inside l ps → AllGood inside l (left n ps)
  left_good inside l zero ps h = h
  left_good inside l (suc n) [] h = tt
  left_good inside l (suc n) (p ∷ ps) h = left_good inside l n ps h.1

  abbrev pub BlocksGood : Bool → ℕ → Blocks → Type 0
  BlocksGood inside l [] = Unit {0}
  BlocksGood inside l (ps ∷ B) = AllGood inside (level B l) ps × BlocksGood inside l B

  module _ (cs : List Current) (env : List Entry) where
    -- an action that goes from these blocks to blocks that the check counts as hs and `grown` makes of them
    pub record Step (inside : Bool) (l : ℕ) (grow : List (Tree one) → List (Tree one)) (act : Action) (ps : List (Tree one)) (B : Blocks) (hs : List ℕ) : Type 0 where
      pub top : List (Tree one)
      pub around : Blocks
      pub counted : hs ≡ map length (top ∷ around)
      pub good : BlocksGood inside l (top ∷ around)
      pub grows : grow (ps ++ flat B) ≡ top ++ flat around
      pub goes : (st : List Term) (off : ℕ) (nst : List ℕ) → Quiet inside off nst → length nst ≡ l
          → act (state cs env (laid l off nst (ps ∷ B) st) off (opened B nst)) ≡ done (state cs env (laid l off nst (top ∷ around) st) off (opened around nst))

    -- bodies that make one term each
    pub record BodiesMake (l : ℕ) (a : Bodies) : Type 0 where
      pub arity : length (keys a) ≡ count (grown a)
      pub runs : RunsAll cs env l (programs a) (value ent l (grown a))
      pub good : Good ent true l (grown a)

    -- a program that makes one term: that of the one tree that it grows
    pub record Makes (inside : Bool) (l : ℕ) (c : Program) : Type 0 where
      pub tree : Tree one
      pub grows : grown c [] ≡ tree ∷ []
      pub good : Good ent inside l tree
      pub runs : (st : List Term) (off : ℕ) (nst : List ℕ) → Quiet inside off nst → length nst ≡ l
          → exec c (state cs env st off nst) ≡ done (state cs env (laid_one off nst l tree ∷ st) off nst)

    makes : (inside : Bool) (l : ℕ) (c : Program) → Step inside l (grown c) (exec c) [] [] (1 ∷ []) → Makes inside l c
    makes inside l c s = go s.top s.around s.counted s.good s.grows s.goes
      where
        go : (ps : List (Tree one)) (B : Blocks) → 1 ∷ [] ≡ map length (ps ∷ B) → BlocksGood inside l (ps ∷ B) → grown c [] ≡ ps ++ flat B
            → ((st : List Term) (off : ℕ) (nst : List ℕ) → Quiet inside off nst → length nst ≡ l
            → exec c (state cs env st off nst) ≡ done (state cs env (laid l off nst (ps ∷ B) st) off (opened B nst)))
            → Makes inside l c
        go ps (b ∷ B) e f w g = never (cc)
        go [] [] e f w g = never (cc)
        go (p ∷ q ∷ ps) [] e f w g = never (cc)
        go (p ∷ []) [] e f w g = record { tree = p; grows = w; good = f.0.0; runs = g }

    module _ (es : List Slot) (ok : EntriesOk (λ x. Unit {0}) es env) (holds : (e b : ℕ) (t : Term) → get_elem? env e ≡ some (entry b t) → t ≡ ent e) where
      -- from blocks as the check counts them to blocks as it then counts them
      abbrev Follows : (Bool → ℕ → ℕ → List ℕ → Option (List ℕ)) → (List (Tree one) → List (Tree one)) → Action → Type 0
      Follows check grow act =
          (inside : Bool) (l nest : ℕ) (ps : List (Tree one)) (B : Blocks) (hs : List ℕ) → check inside l nest (map length (ps ∷ B)) ≡ some hs
          → BlocksGood inside l (ps ∷ B) → Step inside l grow act ps B hs

      abbrev pub Claim : (p : Piece) → Code p → Type 0
      Claim instruction i = Follows (λ inside l nest. build es inside l nest i) (grown i) (exec i)
      Claim program c = Follows (λ inside l nest. build es inside l nest c) (grown c) (exec c)
      Claim bodies a = (inside : Bool) (l nest : ℕ) → T (build es inside l nest a) → BodiesMake l a

      CELL-steps : (s n : ℕ) → Claim instruction (CELL s n)
      CELL-steps s n inside l nest ps B hs e f =
          let q = needed (leb n (length ps)) _ hs (needed (leb n argument_limit) _ hs (needed (leb s index_limit) _ hs e).1).1 in
          let h = leb-true n (length ps) q.0 in
          record {
            top = Cell s (taken n Leaf ps) ∷ left n ps;
            around = B;
            counted = counts_are (length ps - n + 1) _ _ hs q.1 (let k = length_left n ps in omega arith);
            good = ((taken_good inside _ n Leaf ps tt f.0, left_good inside _ n ps f.0), f.1);
            grows = ap₂ (λ (qs : Tree many) (rest : List (Tree one)). Cell s qs ∷ rest) (taken_of_block n Leaf ps (flat B) h) (left_of_block n ps (flat B) h);
            goes = λ st off nst g el. split_block off (opened B nst) (level B l) n Leaf ps (laid l off nst B st) _ h;
          }

      LAMBDA-steps : Claim instruction LAMBDA
      LAMBDA-steps inside l nest ps B hs e f =
          let q = needed (ltb (nest + blocks (map length (ps ∷ B))) nest_limit) _ hs (needed (ltb (l + blocks (map length (ps ∷ B))) open_limit) _ hs e).1 in
          record { top = []; around = ps ∷ B; counted = counts_are 0 0 _ hs q.1 refl; good = (tt, f); grows = refl; goes = λ st off nst g el. refl }

      ADBMAL-steps : Claim instruction ADBMAL
      ADBMAL-steps inside l nest ps [] hs e f = never (cc)
      ADBMAL-steps inside l nest ps (b ∷ B) hs e f =
          let q = needed (eqb (length ps) 1) _ hs e in
          go ps f (eqb-true (length ps) 1 q.0) (counts_are (length b + 1) (suc (length b)) _ hs q.1 (omega arith))
        where
          go : (ps : List (Tree one)) → BlocksGood inside l (ps ∷ b ∷ B) → length ps ≡ 1 → hs ≡ suc (length b) ∷ map length B
              → Step inside l (grown ADBMAL) (exec ADBMAL) ps (b ∷ B) hs
          go [] f e k = absurd (omega arith)
          go (p ∷ q ∷ ps) f e k = absurd (omega arith)
          go (p ∷ []) f e k =
              record {
                top = Block p ∷ b;
                around = B;
                counted = k;
                good = ((f.0.0, f.1.0), f.1.1);
                grows = refl;
                goes = λ st off nst g el.
                    ap (λ (w : Term). done (state cs env (Abst w ∷ laid l off nst (b ∷ B) st) off (opened B nst)))
                    (rename_ext _ _ (value ent (suc (level B l)) p) (elim [ zero ↦ refl | suc x ↦ refl ]));
              }

      PUSHVAR-steps : (x : ℕ) → Claim instruction (PUSHVAR x)
      PUSHVAR-steps x inside l nest ps B hs e f =
          let q = needed (ltb x (l + blocks (map length (ps ∷ B)))) _ hs e in
          let h : x < level B l = rw (level_is l ps B) at (ltb-true x _ q.0) in
          record {
            top = Bound x ∷ ps;
            around = B;
            counted = counts_are (length ps + 1) _ _ hs q.1 (omega arith);
            good = ((h, f.0), f.1);
            grows = refl;
            goes = λ st off nst g el. push_var_is cs env x _ off (opened B nst) (rw (length_opened B nst l el) h);
          }

      PUSHIMM-steps : (e : ℕ) → Claim instruction (PUSHIMM e)
      PUSHIMM-steps n inside l nest ps B hs e f =
          let q = needed (not inside) _ hs e in
          let r = named (λ x. Unit {0}) es env n (λ b g. need (eqb (l + blocks (map length (ps ∷ B))) b) (one_more (map length (ps ∷ B)))) hs ok q.1 in
          let k = needed (eqb (l + blocks (map length (ps ∷ B))) r.b) _ hs r.says in
          record {
            top = Whole n ∷ ps;
            around = B;
            counted = counts_are (length ps + 1) _ _ hs k.1 (omega arith);
            good = ((T_of (not inside) q.0, f.0), f.1);
            grows = refl;
            goes = λ st off nst g el.
                rw r.here
                (ap (λ (w : Term). done (state cs env (w ∷ laid l off nst (ps ∷ B) st) off (opened B nst)))
                (holds n r.b r.term r.here ∙ sym (not_moved inside off (opened B nst) (ent n) q.0 (quiet_opened inside off nst B g))));
          }

      PUSHI-steps : (e D : ℕ) (a : Bodies) → Claim bodies a → Claim instruction (PUSHI e D a)
      PUSHI-steps e D a made inside l nest ps B hs w f =
          let m = map length (ps ∷ B) in
          let r = named (λ x. Unit {0}) es env e (push_asks es l nest D a m) hs ok w in
          let q = push_asked es l nest D a m hs r.b r.guard r.says in
          pushed (made true (l + blocks m) (nest + blocks m) q.bodies) (level_is l ps B) r q.shift q.covered (counts_are (length ps + 1) _ _ hs q.more (omega arith))
        where
          goal : (b : ℕ) (x : Term) → BodiesMake (level B l) a → get_elem? env e ≡ some (entry b x) → b ≤ 64 → D + b ≡ level B l + d_shift
              → AllFree (λ y. T (covered (keys a) b y)) x → hs ≡ suc (length ps) ∷ map length B → Step inside l (grown (PUSHI e D a)) (exec (PUSHI e D a)) ps B hs
          goal b x p here lo d h k =
              let n = level B l in
              let be : b ≡ depth_at n D = omega arith in
              let dd : D ≡ offset n b = omega arith in
              let xe : x ≡ ent e = holds e b x here in
              let ar : length (keys a) ≡ len (value ent n (grown a)) = p.arity ∙ sym (len_value ent n (grown a)) in
              record {
                top = Pushed e D (keys a) (grown a) ∷ ps;
                around = B;
                counted = k;
                good = (((ap (λ (c : ℕ). D + c) (sym be) ∙ d, p.arity, rw (← xe, ← be) h, p.good), f.0), f.1);
                grows = refl;
                goes = λ st off nst g el.
                    rw here
                    (ap₂ (λ (y : Bodies) (m : ℕ). pushi (exec y) (keys y) m (entry b x) (state cs env (laid l off nst (ps ∷ B) st) off (opened B nst))) (keyed_programs a) dd
                    ∙ pushi_is cs env n b off (opened B nst) (keys a) (programs a) (value ent n (grown a)) x _ (length_opened B nst l el) lo p.runs ar h
                    ∙ ap (λ (t : Term). done (state cs env (rename (offset_of off (opened B nst)) t ∷ laid l off nst (ps ∷ B) st) off (opened B nst)))
                    (pushed_value n b D (keys a) (value ent n (grown a)) x (ent e) be xe ar));
              }

          pushed : {n : ℕ} {A : ℕ → List ℕ → Option (List ℕ)} → BodiesMake n a → n ≡ level B l → (r : Named (λ x. Unit {0}) env e A hs) → D + r.b ≡ n + d_shift
              → T (covers r.b r.guard (keys a)) → hs ≡ suc (length ps) ∷ map length B → Step inside l (grown (PUSHI e D a)) (exec (PUSHI e D a)) ps B hs
          pushed {n} p en r d c k =
              goal r.b r.term (rw en at p) r.here (let q = r.low in omega arith) (omega arith)
              (AllFree-map _ _ r.term (λ y. covered_of_covers r.b r.guard (keys a) y c) r.outside) k

      steps_then : (i : Instruction) (c : Program) (inside : Bool) (l : ℕ) (ps : List (Tree one)) (B : Blocks) (hs ks : List ℕ)
          → (s : Step inside l (grown i) (exec i) ps B hs) → Step inside l (grown c) (exec c) s.top s.around ks → Step inside l (grown (i ▸ c)) (exec (i ▸ c)) ps B ks
      steps_then i c inside l ps B hs ks s t =
          record {
            top = t.top;
            around = t.around;
            counted = t.counted;
            good = t.good;
            grows = ap (grown c) s.grows ∙ t.grows;
            goes = λ st off nst g el. ap (λ r. r >>= exec c) (s.goes st off nst g el) ∙ t.goes st off nst g el;
          }

      bodies_then_lem : (k l : ℕ) (c : Program) (a : Bodies) → Makes true l c → BodiesMake l a → BodiesMake l (Body k c a)
      bodies_then_lem k l c a m r =
          let t : m.tree ≡ top_of (grown c []) = ap top_of (sym m.grows) in
          record {
            arity = ap suc r.arity;
            runs = rw (← t) (λ st off nst e. m.runs st off nst tt e, r.runs);
            good = rw (← t) (m.good, r.good);
          }

      -- what the check says of code comes true
      pub grows_as_checked : {p : Piece} (c : Code p) → Claim p c
      grows_as_checked (IS s n) = λ inside l nest ps B hs e f. never (cc)
      grows_as_checked ISABST = λ inside l nest ps B hs e f. never (cc)
      grows_as_checked NEXT = λ inside l nest ps B hs e f. never (cc)
      grows_as_checked (CHECK vs) = λ inside l nest ps B hs e f. never (cc)
      grows_as_checked SET = λ inside l nest ps B hs e f. never (cc)
      grows_as_checked (EQVAR x) = λ inside l nest ps B hs e f. never (cc)
      grows_as_checked (EQIMM n) = λ inside l nest ps B hs e f. never (cc)
      grows_as_checked (EQI n D vs) = λ inside l nest ps B hs e f. never (cc)
      grows_as_checked (CELL s n) = CELL-steps s n
      grows_as_checked LAMBDA = LAMBDA-steps
      grows_as_checked ADBMAL = ADBMAL-steps
      grows_as_checked (PUSHVAR x) = PUSHVAR-steps x
      grows_as_checked (PUSHIMM n) = PUSHIMM-steps n
      grows_as_checked (PUSHI n D a) = PUSHI-steps n D a (grows_as_checked a)
      grows_as_checked End = λ inside l nest ps B hs e f.
          record { top = ps; around = B; counted = counts_are (length ps) _ _ hs e refl; good = f; grows = refl; goes = λ st off nst g el. refl }
      grows_as_checked (i ▸ c) = λ inside l nest ps B hs e f.
          let q = and_then_is (build es inside l nest i (map length (ps ∷ B))) _ hs e in
          let s = grows_as_checked i inside l nest ps B q.0 q.1 f in
          steps_then i c inside l ps B q.0 hs s (grows_as_checked c inside l nest s.top s.around hs (rw s.counted at q.2) s.good)
      grows_as_checked None = λ inside l nest t. record { arity = refl; runs = tt; good = tt }
      grows_as_checked (Body k c a) = λ inside l nest t.
          let q = body_asked es inside l nest k c a t in
          let m = makes true l c (grows_as_checked c true l (nest + 1) [] [] (1 ∷ []) q.0 (tt, tt)) in
          bodies_then_lem k l c a m (grows_as_checked a inside l nest q.1)

      -- code of which the check says that it makes exactly one term
      pub makes_its_tree : (inside : Bool) (l nest : ℕ) (c : Program) → T (one_term (build es inside l nest c (0 ∷ []))) → Makes inside l c
      makes_its_tree inside l nest c t = makes inside l c (grows_as_checked c inside l nest [] [] (1 ∷ []) (one_term_lem _ t) (tt, tt))
