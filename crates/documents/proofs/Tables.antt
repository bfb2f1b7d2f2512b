-- Tables and terms: each gives the other back, and a subterm is a part of the table. Words are read from the end, so each law is about the
-- words of a term with any others after them, or about all the terms that words hold.
use mathlib.Core.Path.{◌≡◌, refl, sym, ap, ◌∙◌}
use Prim.Native.Nat.{ℕ, zero, suc, ◌-◌, ◌*◌, ◌/◌, ◌%◌, ◌≤◌}
use native.Mathlib.Omega.{arith}
use mathlib.Core.Bool.{Bool, true, false, cond}
use mathlib.Core.Option.{Option, none, some}
use mathlib.Core.List.{List, [], ◌∷◌, ◌++◌, append_assoc, append-nil}
use lib.Dec.{eqb, leb, ltb}
use lib.ListN.{length, take, drop, length-append}
use lib.Seq.{take_at, drop_at}
use borrow.Author.Tests.{le-leb, leb-true, eqb-true, ltb-false}
use Rattle.documents.specs.Limits.{argument_limit, index_limit}
use Rattle.documents.specs.Lists.{and_then}
use Rattle.documents.specs.Terms.{Sort, one, many, Tm, Var, Sym, Meta, Abst, Nil, Cons, Term, Terms, len}
use Rattle.documents.proofs.Lists.{never, needed, and_then_assoc, and_then_ext, and_then_some}
use Rattle.documents.specs.Tables.{symbol, metavariable, kind_of, node_word, table_of, Fits, grab, abstract, node, terms_in, single, term_in, nodes, subterm}

-- the terms of t before the terms us
abbrev pub before : (s : Sort) → Tm s → List Term → List Term
before one t us = t ∷ us
before many Nil us = us
before many (Cons t ts) us = t ∷ before many ts us

-- ---- From a term to its table and back

grab_before : (ts : Terms) (us : List Term) (k : Terms → List Term → Option (List Term)) → grab (len ts) (before many ts us) k ≡ k ts us
grab_before Nil us k = refl
grab_before (Cons t ts) us k = grab_before ts us (λ vs. k (Cons t vs))

-- a node's first word, taken apart
kind_of_word : (k s : ℕ) → s ≤ index_limit → node_word k s / 65536 ≡ k
kind_of_word k s h = omega arith

name_of_word : (k s : ℕ) → s ≤ index_limit → node_word k s % 65536 ≡ s
name_of_word k s h = omega arith

word_of_parts : (w : ℕ) → node_word (w / 65536) (w % 65536) ≡ w
word_of_parts w = omega arith

node_symbol : (s : ℕ) (ts : Terms) (us : List Term) → len ts ≤ argument_limit → node symbol s (len ts) (before many ts us) ≡ some (Sym s ts ∷ us)
node_symbol s ts us h = rw (le-leb (len ts) argument_limit h) (grab_before ts us (λ vs rest. some (Sym s vs ∷ rest)))

node_metavariable : (z : ℕ) (ts : Terms) (us : List Term) → len ts ≤ argument_limit → node metavariable z (len ts) (before many ts us) ≡ some (Meta z ts ∷ us)
node_metavariable z ts us h = rw (le-leb (len ts) argument_limit h) (grab_before ts us (λ vs rest. some (Meta z vs ∷ rest)))

-- the table of t, and other words behind it, hold t and then what those hold
pub terms_in_table_of : {s : Sort} (t : Tm s) (ws : List ℕ) → Fits t → terms_in (table_of t ++ ws) ≡ and_then (terms_in ws) (λ us. some (before s t us))
terms_in_table_of (Var x) ws h = rw (kind_of_word 0 x h, name_of_word 0 x h)
terms_in_table_of (Sym s ts) ws h =
    rw (kind_of_word 1 s h.0, name_of_word 1 s h.0, terms_in_table_of ts ws h.2)
    (and_then_assoc (terms_in ws) _ _ ∙ and_then_ext (terms_in ws) _ _ (λ us. node_symbol s ts us h.1))
terms_in_table_of (Meta z ts) ws h =
    rw (kind_of_word 2 z h.0, name_of_word 2 z h.0, terms_in_table_of ts ws h.2)
    (and_then_assoc (terms_in ws) _ _ ∙ and_then_ext (terms_in ws) _ _ (λ us. node_metavariable z ts us h.1))
terms_in_table_of (Abst t) ws h = rw (terms_in_table_of t ws h) (and_then_assoc (terms_in ws) _ _)
terms_in_table_of Nil ws h = sym (and_then_some (terms_in ws))
terms_in_table_of (Cons t ts) ws h =
    rw (append_assoc (table_of t) (table_of ts) ws, terms_in_table_of t (table_of ts ++ ws) h.0, terms_in_table_of ts ws h.1)
    (and_then_assoc (terms_in ws) _ _)

-- a term that fits is the one term of its table
pub term_in_table_of : (t : Term) → Fits t → term_in (table_of t) ≡ some t
term_in_table_of t h = rw (← (append-nil (table_of t)), terms_in_table_of t [] h)

-- ---- From a table to its term and back

abbrev pub tables_of : List Term → List ℕ
tables_of [] = []
tables_of (t ∷ us) = table_of t ++ tables_of us

abbrev pub AllFit : List Term → Type 0
AllFit [] = Unit {0}
AllFit (t ∷ us) = Fits t × AllFit us

-- terms that stand for words: they give the words back, and fit
pub record Holds (ws : List ℕ) (us : List Term) : Type 0 where
  pub words : tables_of us ≡ ws
  pub fit : AllFit us

tables_of_before : (ts : Terms) (us : List Term) → tables_of (before many ts us) ≡ table_of ts ++ tables_of us
tables_of_before Nil us = refl
tables_of_before (Cons t ts) us = rw (tables_of_before ts us, append_assoc (table_of t) (table_of ts) (tables_of us))

fit_before : (ts : Terms) (us : List Term) → AllFit (before many ts us) → Fits ts × AllFit us
fit_before Nil us h = (tt, h)
fit_before (Cons t ts) us h = let r = fit_before ts us h.1 in ((h.0, r.0), r.1)

-- what a node grabs
pub record Grabbed (c : ℕ) (us r : List Term) (k : Terms → List Term → Option (List Term)) : Type 0 where
  pub arguments : Terms
  pub rest : List Term
  pub whole : us ≡ before many arguments rest
  pub count : len arguments ≡ c
  pub gives : k arguments rest ≡ some r

pub grabbed : (c : ℕ) (us r : List Term) (k : Terms → List Term → Option (List Term)) → grab c us k ≡ some r → Grabbed c us r k
grabbed zero us r k e = record { arguments = Nil; rest = us; whole = refl; count = refl; gives = e }
grabbed (suc c) [] r k e = never (cc)
grabbed (suc c) (u ∷ us) r k e =
    let g = grabbed c us r (λ ts. k (Cons u ts)) e in
    record { arguments = Cons u g.arguments; rest = g.rest; whole = ap {B = List Term} (λ l. u ∷ l) g.whole; count = ap suc g.count; gives = g.gives }

-- a symbol or a metavariable f over what it grabbed
applied_holds : (f : Terms → Term) (w c : ℕ) (ws : List ℕ) (us r : List Term)
    → ((ts : Terms) → len ts ≡ c → table_of (f ts) ≡ w ∷ c ∷ table_of ts) → ((ts : Terms) → len ts ≡ c → Fits ts → Fits (f ts))
    → Holds ws us → Grabbed c us r (λ ts rest. some (f ts ∷ rest)) → Holds (w ∷ c ∷ ws) r
applied_holds f w c ws us r table fits h g =
    let q : r ≡ f g.arguments ∷ g.rest = cc g.gives in
    let k = fit_before g.arguments g.rest (rw g.whole at h.fit) in
    rw q (record {
      words =
          ap (λ (l : List ℕ). l ++ tables_of g.rest) (table g.arguments g.count)
          ∙ ap (λ (l : List ℕ). w ∷ c ∷ l) (sym (tables_of_before g.arguments g.rest) ∙ sym (ap tables_of g.whole) ∙ h.words);
      fit = (fits g.arguments g.count k.0, k.1);
    })

abst_holds : (s c : ℕ) (ws : List ℕ) (us r : List Term) → s ≡ 0 → c ≡ 1 → Holds ws us → abstract us ≡ some r → Holds (node_word 3 s ∷ c ∷ ws) r
abst_holds s c ws [] r p q h e = never (cc)
abst_holds s c ws (u ∷ us) r p q h e =
    let k : r ≡ Abst u ∷ us = cc in
    rw (k, p, q) (record { words = ap (λ (l : List ℕ). node_word 3 0 ∷ 1 ∷ l) h.words; fit = (h.fit.0, h.fit.1) })

-- a node before words whose terms are us
node_holds : (kind s c : ℕ) (ws : List ℕ) (us r : List Term) → s ≤ index_limit → Holds ws us → node (kind_of kind) s c us ≡ some r
    → Holds (node_word kind s ∷ c ∷ ws) r
node_holds zero s c ws us r f h e =
    let g = needed (eqb c 0) (some (Var s ∷ us)) r e in
    let q : r ≡ Var s ∷ us = cc g.1 in
    rw (q, eqb-true c 0 g.0) (record { words = ap (λ (l : List ℕ). node_word 0 s ∷ 0 ∷ l) h.words; fit = (f, h.fit) })
node_holds (suc zero) s c ws us r f h e =
    let g = needed (leb c argument_limit) _ r e in
    let lo = leb-true c argument_limit g.0 in
    applied_holds (Sym s) (node_word 1 s) c ws us r (λ ts q. rw q) (λ ts q k. (f, omega arith, k)) h (grabbed c us r _ g.1)
node_holds (suc (suc zero)) s c ws us r f h e =
    let g = needed (leb c argument_limit) _ r e in
    let lo = leb-true c argument_limit g.0 in
    applied_holds (Meta s) (node_word 2 s) c ws us r (λ ts q. rw q) (λ ts q k. (f, omega arith, k)) h (grabbed c us r _ g.1)
node_holds (suc (suc (suc zero))) s c ws us r f h e =
    let g = needed (eqb s 0) _ r e in
    let k = needed (eqb c 1) _ r g.1 in
    abst_holds s c ws us r (eqb-true s 0 g.0) (eqb-true c 1 k.0) h k.1
node_holds (suc (suc (suc (suc kind)))) s c ws us r f h e = never (cc)

pub terms_in_holds : (ws : List ℕ) (us : List Term) → terms_in ws ≡ some us → Holds ws us
terms_in_holds [] us e = let q : us ≡ [] = cc in rw q (record { words = refl; fit = tt })
terms_in_holds (w ∷ []) us e = never (cc)
terms_in_holds (w ∷ c ∷ ws) us e = go (terms_in ws) (terms_in_holds ws) e
  where
    go : (o : Option (List Term)) → ((vs : List Term) → o ≡ some vs → Holds ws vs) → and_then o (node (kind_of (w / 65536)) (w % 65536) c) ≡ some us
        → Holds (w ∷ c ∷ ws) us
    go none k e = never (cc)
    go (some vs) k e =
        rw (word_of_parts w) at (node_holds (w / 65536) (w % 65536) c ws vs us (omega arith) (k vs refl) e)

single_is : (us : List Term) (t : Term) → single us ≡ some t → us ≡ t ∷ []
single_is [] t e = never (cc)
single_is (u ∷ []) t e = let q : u ≡ t = cc in rw q
single_is (u ∷ v ∷ us) t e = never (cc)

-- terms that fit are what their tables hold
pub terms_in_tables_of : (us : List Term) → AllFit us → terms_in (tables_of us) ≡ some us
terms_in_tables_of [] h = refl
terms_in_tables_of (u ∷ us) h = rw (terms_in_table_of u (tables_of us) h.0, terms_in_tables_of us h.1)

-- the term of a good table has that table, and fits
pub table_of_term_in : (ws : List ℕ) (t : Term) → term_in ws ≡ some t → (table_of t ≡ ws) × Fits t
table_of_term_in ws t e = go (terms_in ws) (terms_in_holds ws) e
  where
    go : (o : Option (List Term)) → ((vs : List Term) → o ≡ some vs → Holds ws vs) → and_then o single ≡ some t → (table_of t ≡ ws) × Fits t
    go none k e = never (cc)
    go (some vs) k e =
        let h = rw (single_is vs t e) at (k vs refl) in
        (sym (append-nil (table_of t)) ∙ h.words, h.fit.0)

-- ---- Counts and parts

pub length_table_of : {s : Sort} (t : Tm s) → length (table_of t) ≡ 2 * nodes t
length_table_of (Var x) = refl
length_table_of (Sym s ts) = let h = length_table_of ts in omega arith
length_table_of (Meta z ts) = let h = length_table_of ts in omega arith
length_table_of (Abst t) = let h = length_table_of t in omega arith
length_table_of Nil = refl
length_table_of (Cons t ts) = let h = length_table_of t in let k = length_table_of ts in rw (length-append (table_of t) (table_of ts)) (omega arith)

-- where the table of u stands in the words ws: n nodes stand before it
pub record Part (ws : List ℕ) (n : ℕ) (u : Term) : Type 0 where
  pub before : List ℕ
  pub behind : List ℕ
  pub whole : ws ≡ before ++ (table_of u ++ behind)
  pub start : length before ≡ 2 * n

root_part : (t u : Term) → some t ≡ some u → Part (table_of t) 0 u
root_part t u e = let q : t ≡ u = cc in rw q (record { before = []; behind = []; whole = sym (append-nil (table_of u)); start = refl })

argument_part : (w c n : ℕ) (ws : List ℕ) (u : Term) → Part ws n u → Part (w ∷ c ∷ ws) (suc n) u
argument_part w c n ws u p = record {
  before = w ∷ c ∷ p.before;
  behind = p.behind;
  whole = ap (λ (l : List ℕ). w ∷ c ∷ l) p.whole;
  start = let h = p.start in omega arith;
}

first_part : (n : ℕ) (ws vs : List ℕ) (u : Term) → Part ws n u → Part (ws ++ vs) n u
first_part n ws vs u p = record {
  before = p.before;
  behind = p.behind ++ vs;
  whole = ap (λ (l : List ℕ). l ++ vs) p.whole ∙ append_assoc p.before _ vs ∙ ap (λ (l : List ℕ). p.before ++ l) (append_assoc (table_of u) p.behind vs);
  start = p.start;
}

later_part : (m n : ℕ) (ws vs : List ℕ) (u : Term) → length ws ≡ 2 * m → m ≤ n → Part vs (n - m) u → Part (ws ++ vs) n u
later_part m n ws vs u l h p = record {
  before = ws ++ p.before;
  behind = p.behind;
  whole = ap (λ (l : List ℕ). ws ++ l) p.whole ∙ sym (append_assoc ws p.before _);
  start = let k = p.start in rw (length-append ws p.before) (omega arith);
}

pub subterm_place : {s : Sort} (t : Tm s) (n : ℕ) (u : Term) → subterm t n ≡ some u → Part (table_of t) n u
subterm_place (Var x) zero u e = root_part (Var x) u e
subterm_place (Var x) (suc n) u e = never (cc)
subterm_place (Sym s ts) zero u e = root_part (Sym s ts) u e
subterm_place (Sym s ts) (suc n) u e = argument_part _ _ n _ u (subterm_place ts n u e)
subterm_place (Meta z ts) zero u e = root_part (Meta z ts) u e
subterm_place (Meta z ts) (suc n) u e = argument_part _ _ n _ u (subterm_place ts n u e)
subterm_place (Abst t) zero u e = root_part (Abst t) u e
subterm_place (Abst t) (suc n) u e = argument_part _ _ n _ u (subterm_place t n u e)
subterm_place Nil n u e = never (cc)
subterm_place (Cons t ts) n u e = go (ltb n (nodes t)) refl (subterm_place t n u) (subterm_place ts (n - nodes t) u) e
  where
    go : (q : Bool) → ltb n (nodes t) ≡ q → (subterm t n ≡ some u → Part (table_of t) n u) → (subterm ts (n - nodes t) ≡ some u → Part (table_of ts) (n - nodes t) u)
        → cond q (subterm t n) (subterm ts (n - nodes t)) ≡ some u → Part (table_of t ++ table_of ts) n u
    go true q f g e = first_part n (table_of t) (table_of ts) u (f e)
    go false q f g e = later_part (nodes t) n (table_of t) (table_of ts) u (length_table_of t) (ltb-false n (nodes t) q) (g e)

-- a subterm is a part of the table: it begins at its node's words, and is as long as its own table
pub subterm_part : (t : Term) (n : ℕ) (u : Term) → subterm t n ≡ some u → take (2 * nodes u) (drop (2 * n) (table_of t)) ≡ table_of u
subterm_part t n u e =
    let p = subterm_place t n u e in
    rw (p.whole, drop_at p.before (table_of u ++ p.behind) (2 * n) p.start) (take_at (table_of u) p.behind (2 * nodes u) (length_table_of u))
