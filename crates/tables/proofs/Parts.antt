-- How the terms of a part come apart: at a node (`opened`), and at a whole term (`passed`). Each walk of a table takes one of these two steps.
use mathlib.Core.Path.{◌≡◌, refl, sym, ap, ◌∙◌}
use Prim.Native.Nat.{ℕ, zero, suc, ◌+◌, ◌-◌, ◌*◌, ◌/◌, ◌%◌, ◌≤◌, ◌<◌}
use native.Mathlib.Nat.{zero-add, suc-add}
use native.Mathlib.Numerals.{add-one, add-two}
use native.Mathlib.Omega.{arith}
use mathlib.Core.Bool.{true}
use mathlib.Core.Option.{Option, none, some}
use mathlib.Core.List.{List, [], ◌∷◌}
use lib.Dec.{eqb, leb}
use lib.ListN.{length, take, drop, get_or, length-drop, length-append}
use lib.Seq.{drop-cons, drop_at, take_all}
use borrow.Author.Tests.{eqb-true, leb-true}
use Rattle.documents.specs.Limits.{argument_limit}
use Rattle.documents.specs.Lists.{and_then}
use Rattle.documents.specs.Terms.{many, Var, Sym, Meta, Abst, Nil, Cons, Term, Terms, len}
use Rattle.documents.specs.Tables.{kind_of, node, abstract, terms_in, table_of}
use Rattle.documents.proofs.Lists.{never, needed}
use Rattle.documents.proofs.Nodes.{nodes_positive}
use Rattle.documents.proofs.Tables.{before, Grabbed, grabbed, tables_of, terms_in_holds, terms_in_tables_of, length_table_of}
use Rattle.tables.specs.Parts.{or_empty, held, first_terms, terms, front, Begins, word_count}

-- ---- A node, and the terms that its words stand before

-- terms before terms
abbrev pub join : Terms → Terms → Terms
join Nil us = us
join (Cons t ts) us = Cons t (join ts us)

abbrev pub only : Terms → Term
only Nil = Var 0
only (Cons t ts) = t

-- the term of a node's kind and name, with these arguments
abbrev pub headed : ℕ → ℕ → Terms → Term
headed zero s ts = Var s
headed (suc zero) s ts = Sym s ts
headed (suc (suc zero)) s ts = Meta s ts
headed (suc (suc (suc k))) s ts = Abst (only ts)

-- the arguments that a node of this kind may have
abbrev pub Shape : ℕ → ℕ → Terms → Type 0
Shape zero s ts = ts ≡ Nil
Shape (suc zero) s ts = Unit {0}
Shape (suc (suc zero)) s ts = Unit {0}
Shape (suc (suc (suc zero))) s ts = (s ≡ 0) × (ts ≡ Cons (only ts) Nil)
Shape (suc (suc (suc (suc k)))) s ts = ⊥

-- terms us that begin with a node, and the terms vs that stand behind the node's words
pub record Opened (k s c : ℕ) (us vs : List Term) : Type 0 where
  pub arguments : Terms
  pub rest : List Term
  pub node : us ≡ headed k s arguments ∷ rest
  pub inside : vs ≡ before many arguments rest
  pub count : len arguments ≡ c
  pub narrow : c ≤ argument_limit
  pub shape : Shape k s arguments

applied_opened : (k s c : ℕ) (us vs : List Term) → ((ts : Terms) → Shape k s ts) → leb c argument_limit ≡ true
    → Grabbed c vs us (λ ts rest. some (headed k s ts ∷ rest)) → Opened k s c us vs
applied_opened k s c us vs shape lo g = record {
  arguments = g.arguments;
  rest = g.rest;
  node = cc g.gives;
  inside = g.whole;
  count = g.count;
  narrow = leb-true c argument_limit lo;
  shape = shape g.arguments;
}

abst_opened : (s c : ℕ) (us vs : List Term) → s ≡ 0 → c ≡ 1 → abstract vs ≡ some us → Opened 3 s c us vs
abst_opened s c us [] p q e = never (cc)
abst_opened s c us (v ∷ vs) p q e = record {
  arguments = Cons v Nil;
  rest = vs;
  node = cc;
  inside = refl;
  count = sym q;
  narrow = omega arith;
  shape = (p, refl);
}

pub node_opened : (k s c : ℕ) (us vs : List Term) → node (kind_of k) s c vs ≡ some us → Opened k s c us vs
node_opened zero s c us vs e =
    let g = needed (eqb c 0) (some (Var s ∷ vs)) us e in
    let q = eqb-true c 0 g.0 in
    record { arguments = Nil; rest = vs; node = cc g.1; inside = refl; count = sym q; narrow = omega arith; shape = refl }
node_opened (suc zero) s c us vs e =
    let g = needed (leb c argument_limit) _ us e in
    applied_opened 1 s c us vs (λ ts. tt) g.0 (grabbed c vs us _ g.1)
node_opened (suc (suc zero)) s c us vs e =
    let g = needed (leb c argument_limit) _ us e in
    applied_opened 2 s c us vs (λ ts. tt) g.0 (grabbed c vs us _ g.1)
node_opened (suc (suc (suc zero))) s c us vs e =
    let g = needed (eqb s 0) _ us e in
    let h = needed (eqb c 1) _ us g.1 in
    abst_opened s c us vs (eqb-true s 0 g.0) (eqb-true c 1 h.0) h.1
node_opened (suc (suc (suc (suc k)))) s c us vs e = never (cc)

-- ---- The words of a part

pub two : (t : List ℕ) (a : ℕ) → a + 2 ≤ length t → drop a t ≡ get_or t a 0 ∷ get_or t (a + 1) 0 ∷ drop (a + 2) t
two t a h =
    let h1 : a < length t = omega arith in
    let h2 : suc a < length t = omega arith in
    rw (add-one, add-two, drop-cons t a 0, drop-cons t (suc a) 0)

pub begins_less : {n : ℕ} {part : List ℕ} (m : ℕ) → m ≤ n → Begins n part → Begins m part
begins_less m h b = record { whole = b.whole; enough = let e = b.enough in omega arith }

-- terms have words
words_of_terms : (us : List Term) (n : ℕ) → n ≤ length us → (2 * n ≤ word_count (first_terms n us)) × (word_count (first_terms n us) ≤ length (tables_of us))
words_of_terms us zero h = (omega arith, omega arith)
words_of_terms [] (suc n) h = absurd (omega arith)
words_of_terms (u ∷ us) (suc n) h =
    let r = words_of_terms us n (omega arith) in
    let k = length_table_of u in
    let p = nodes_positive u in
    (omega arith, rw (length-append (table_of u) (tables_of us)) (omega arith))

pub words_fit : (n : ℕ) (part : List ℕ) → Begins n part → (2 * n ≤ word_count (terms n part)) × (word_count (terms n part) ≤ length part)
unfolding terms
words_fit n part b =
    let r = words_of_terms (held part) n b.enough in
    let l = ap (λ (x : List ℕ). length x) (terms_in_holds part (held part) b.whole).words in
    (r.0, omega arith)

-- where terms begin there are two words a term at least
pub in_table : {n : ℕ} (t : List ℕ) (a : ℕ) → Begins n (drop a t) → 0 < n → a + 2 * n ≤ length t
in_table {n} t a b h =
    let r = words_fit n (drop a t) b in
    let e = length-drop a t in
    omega arith

held_node : (w c : ℕ) (part : List ℕ) → terms_in (w ∷ c ∷ part) ≡ some (held (w ∷ c ∷ part))
    → (terms_in part ≡ some (held part)) × Opened (w / 65536) (w % 65536) c (held (w ∷ c ∷ part)) (held part)
unfolding held
held_node w c part e = go (terms_in part) e
  where
    go : (o : Option (List Term)) → and_then o (node (kind_of (w / 65536)) (w % 65536) c) ≡ some (or_empty (and_then o (node (kind_of (w / 65536)) (w % 65536) c)))
        → (o ≡ some (or_empty o)) × Opened (w / 65536) (w % 65536) c (or_empty (and_then o (node (kind_of (w / 65536)) (w % 65536) c))) (or_empty o)
    go none e = never (cc)
    go (some vs) e = (refl, node_opened (w / 65536) (w % 65536) c _ vs e)

pub opened : {n : ℕ} (t : List ℕ) (a : ℕ) → Begins n (drop a t) → 0 < n
    → (terms_in (drop (a + 2) t) ≡ some (held (drop (a + 2) t)))
    × Opened (get_or t a 0 / 65536) (get_or t a 0 % 65536) (get_or t (a + 1) 0) (held (drop a t)) (held (drop (a + 2) t))
opened t a b h =
    let l = in_table t a b h in
    let e = two t a (omega arith) in
    rw e (held_node (get_or t a 0) (get_or t (a + 1) 0) (drop (a + 2) t) (rw e at b.whole))

-- ---- One node: n terms become the node's arguments and the n - 1 terms after it

length_before : (ts : Terms) (us : List Term) → length (before many ts us) ≡ len ts + length us
length_before Nil us = sym (zero-add (length us))
length_before (Cons t ts) us = rw (length_before ts us, suc-add)

pub first_before : (ts : Terms) (us : List Term) (n : ℕ) → first_terms (len ts + n) (before many ts us) ≡ join ts (first_terms n us)
first_before Nil us n = rw zero-add
first_before (Cons t ts) us n = rw suc-add (ap (Cons t) (first_before ts us n))

-- terms ts of which the first is a node of kind k, name s and count c, and the terms us behind the node's words
pub record Step (k s c : ℕ) (ts us : Terms) : Type 0 where
  pub arguments : Terms
  pub later : Terms
  pub node : ts ≡ Cons (headed k s arguments) later
  pub inside : us ≡ join arguments later
  pub count : len arguments ≡ c
  pub narrow : c ≤ argument_limit
  pub shape : Shape k s arguments

opened_step : {k s c : ℕ} {us vs : List Term} (n : ℕ) → Opened k s c us vs → 0 < n → Step k s c (first_terms n us) (first_terms (n - 1 + c) vs)
opened_step zero o h = absurd (omega arith)
opened_step {k} {s} {c} {us} {vs} (suc n) o h =
    let e : suc n - 1 + c ≡ len o.arguments + n = let q = o.count in omega arith in
    record {
      arguments = o.arguments;
      later = first_terms n o.rest;
      node = ap (first_terms (suc n)) o.node;
      inside = ap (λ (l : List Term). first_terms (suc n - 1 + c) l) o.inside ∙ rw e (first_before o.arguments o.rest n);
      count = o.count;
      narrow = o.narrow;
      shape = o.shape;
    }

-- the node at place a of a table, with n terms beginning there
abbrev pub StepAt : List ℕ → ℕ → ℕ → Type 0
StepAt t a n =
    Step (get_or t a 0 / 65536) (get_or t a 0 % 65536) (get_or t (a + 1) 0) (terms n (drop a t)) (terms (n - 1 + get_or t (a + 1) 0) (drop (a + 2) t))

pub step : (t : List ℕ) (a n : ℕ) → Begins n (drop a t) → 0 < n → StepAt t a n
unfolding terms
step t a n b h = opened_step n (opened t a b h).1 h

pub begins_inside : (t : List ℕ) (a n : ℕ) → Begins n (drop a t) → 0 < n → Begins (n - 1 + get_or t (a + 1) 0) (drop (a + 2) t)
begins_inside t a n b h =
    let o = opened t a b h in
    record {
      whole = o.0;
      enough =
          let q = o.1.count in
          let e : n ≤ suc (length o.1.rest) = rw o.1.node at b.enough in
          rw (o.1.inside, length_before o.1.arguments o.1.rest) (omega arith);
    }

-- ---- Whole terms

held_is : (part : List ℕ) (us : List Term) → terms_in part ≡ some us → held part ≡ us
unfolding held
held_is part us e = rw e

held_behind : (u : Term) (us : List Term) (part : List ℕ) → terms_in part ≡ some (u ∷ us) → terms_in (drop (word_count u) part) ≡ some us
held_behind u us part e =
    let h = terms_in_holds part (u ∷ us) e in
    let d : drop (word_count u) part ≡ tables_of us = rw (← h.words) (drop_at (table_of u) (tables_of us) (word_count u) (length_table_of u)) in
    rw d (terms_in_tables_of us h.fit.1)

-- what is left when the first term is passed over
pub record Passed (n : ℕ) (part : List ℕ) : Type 0 where
  pub terms_are : terms n part ≡ Cons (front part) (terms (n - 1) (drop (word_count (front part)) part))
  pub begins : Begins (n - 1) (drop (word_count (front part)) part)

pub passed : (n : ℕ) (part : List ℕ) → Begins n part → 0 < n → Passed n part
unfolding terms front
passed n part b h = go n h (held part) b.enough b.whole refl
  where
    go : (n : ℕ) → 0 < n → (us : List Term) → n ≤ length us → terms_in part ≡ some us → held part ≡ us → Passed n part
    go zero h us e w q = absurd (omega arith)
    go (suc n) h [] e w q = absurd (omega arith)
    go (suc n) h (u ∷ us) e w q =
        let k = held_behind u us part w in
        let l = held_is (drop (word_count u) part) us k in
        let m : suc n - 1 ≡ n = omega arith in
        record {
          terms_are = rw (q, l, m);
          begins = rw (q) (record { whole = rw l k; enough = rw l (omega arith) });
        }

pub no_terms : (part : List ℕ) → terms 0 part ≡ Nil
unfolding terms
no_terms part = refl

pub front_term : (part : List ℕ) → Begins 1 part → terms 1 part ≡ Cons (front part) Nil
front_term part b = (passed 1 part b (omega arith)).terms_are ∙ ap (Cons (front part)) (no_terms (drop (word_count (front part)) part))

-- ---- A part as the code hands it on

-- `&t[a..]`
abbrev pub from : ℕ → List ℕ → List ℕ
from a t = take (length t - a) (drop a t)

pub from_drop : (a : ℕ) (t : List ℕ) → from a t ≡ drop a t
from_drop a t = take_all (length t - a) (drop a t) (simp length-drop (omega arith))
