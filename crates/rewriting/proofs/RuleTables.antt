-- The table of rules: how a walk reads it, that a table made of codes holds those codes, that all rules of a good table pass, and that the codes of
-- accepted rules make a good one.
use mathlib.Core.Path.{◌≡◌, refl, sym, ap, ap₂, ◌∙◌}
use Prim.Native.Nat.{ℕ, zero, suc, ◌≤◌}
use native.Mathlib.Omega.{arith}
use mathlib.Core.Bool.{Bool, true, false, cond}
use mathlib.Core.Option.{some-injective}
use mathlib.Core.List.{List, [], ◌∷◌, ◌++◌}
use lib.Dec.{T, leb}
use lib.ListN.{length, take, drop, length-append}
use lib.Seq.{take_at, drop_at}
use borrow.Author.Tests.{le-leb, leb-true}
use Rattle.documents.specs.Terms.{Term}
use Rattle.documents.specs.Instructions.{Program, words, program_in}
use Rattle.documents.specs.Translation.{compile}
use Rattle.documents.specs.Passing.{obeys, passes}
use Rattle.documents.specs.Numbers.{answered, with, Rule, rule, rule_in, code_in}
use Rattle.documents.proofs.Lists.{never, on, T_of}
use Rattle.documents.proofs.Instructions.{program_in_words}
use Rattle.documents.proofs.Numbers.{unless_is, or_refuse_is, with_is, rule_in_accepted}
use Rattle.safety.proofs.NeverStuck.{passing_obeys}
use Rattle.compiled.proofs.Passes.{compiled_passes}
use Rattle.rewriting.specs.RuleTable.{Listed, whole, cut, listed_from, listed, listed_in, all_in, rules_in, rule_table}
use Rattle.rewriting.specs.Turning.{AllAccepted, programs_of, codes_of}
use Rattle.rewriting.proofs.FirstRule.{AllObey}

-- ---- Reading

pub listed_drop : (ws : List ℕ) (k : ℕ) → listed_from ws k ≡ listed (drop k ws)
listed_drop [] zero = refl
listed_drop [] (suc k) = refl
listed_drop (w ∷ ws) zero = refl
listed_drop (w ∷ ws) (suc k) = listed_drop ws k

-- a word count, its code, and the rules behind it
pub listed_cons : (w : ℕ) (ws : List ℕ) → listed (w ∷ ws) ≡ cond (leb w (length ws)) (whole (take w ws)) cut ∷ listed (drop w ws)
listed_cons w ws = ap (λ (l : List Listed). cond (leb w (length ws)) (whole (take w ws)) cut ∷ l) (listed_drop ws w)

pub listed_count : (w : ℕ) (ws : List ℕ) → length (listed (w ∷ ws)) ≡ suc (length (listed (drop w ws)))
listed_count w ws = ap length (listed_cons w ws)

-- no more rules than words
pub listed_few : (ws : List ℕ) (k : ℕ) → length (listed_from ws k) ≤ length ws
listed_few [] k = omega arith
listed_few (w ∷ ws) zero = let h = listed_few ws w in omega arith
listed_few (w ∷ ws) (suc k) = let h = listed_few ws k in omega arith

-- ---- A table made of codes

abbrev pub wholes : List (List ℕ) → List Listed
wholes [] = []
wholes (code ∷ codes) = whole code ∷ wholes codes

pub listed_table : (codes : List (List ℕ)) → listed (rule_table codes) ≡ wholes codes
listed_table [] = refl
listed_table (code ∷ codes) =
    let rest = rule_table codes in
    let h : length code ≤ length (code ++ rest) = omega (arith, length-append code rest) in
    listed_cons (length code) (code ++ rest)
    ∙ ap₂ {C = List Listed} ◌∷◌
    (rw (le-leb (length code) (length (code ++ rest)) h, take_at code rest (length code) refl))
    (ap listed (drop_at code rest (length code) refl) ∙ listed_table codes)

-- ---- Good tables

code_obeys : (code : List ℕ) (c : Program) → code_in code ≡ answered c → T (obeys c)
unfolding code_in
code_obeys code c e =
    let a = unless_is (passes code) _ _ c e in
    let o = passing_obeys code (T_of _ a.0) in
    let q : o.0 ≡ c = some-injective o.0 c (sym o.1 ∙ or_refuse_is (program_in code) _ c a.1) in
    rw q at o.2

all_obey : (rs : List Listed) (cs : List Program) → all_in rs ≡ answered cs → AllObey cs
all_obey [] cs e = let q : cs ≡ [] = cc in rw q tt
all_obey (cut ∷ rs) cs e = never (cc)
all_obey (whole code ∷ rs) cs e =
    let a = with_is (code_in code) _ cs e in
    let b = with_is (all_in rs) _ cs a.2 in
    let q : cs ≡ a.0 ∷ b.0 = cc b.2 in
    rw q (code_obeys code a.0 a.1, all_obey rs b.0 b.1)

-- what a table comes to, one rule at a time
pub rules_cons : (w : ℕ) (ws : List ℕ)
    → rules_in (w ∷ ws) ≡ with (listed_in (cond (leb w (length ws)) (whole (take w ws)) cut)) (λ c. with (rules_in (drop w ws)) (λ cs. answered (c ∷ cs)))
unfolding rules_in
rules_cons w ws = ap all_in (listed_cons w ws)

-- the first rule of a good table, and the good table behind it
pub record FirstOf (w : ℕ) (ws : List ℕ) (cs : List Program) : Type 0 where
  pub program : Program
  pub rest : List Program
  pub inside : w ≤ length ws
  pub code : code_in (take w ws) ≡ answered program
  pub behind : rules_in (drop w ws) ≡ answered rest
  pub all : cs ≡ program ∷ rest

pub rules_first : (w : ℕ) (ws : List ℕ) (cs : List Program) → rules_in (w ∷ ws) ≡ answered cs → FirstOf w ws cs
rules_first w ws cs e = go (leb w (length ws)) refl (sym (rules_cons w ws) ∙ e)
  where
    go : (q : Bool) → leb w (length ws) ≡ q
        → with (listed_in (cond q (whole (take w ws)) cut)) (λ c. with (rules_in (drop w ws)) (λ cs. answered (c ∷ cs))) ≡ answered cs → FirstOf w ws cs
    go false q e = never (cc)
    go true q e =
        let a = with_is (code_in (take w ws)) _ cs e in
        let b = with_is (rules_in (drop w ws)) _ cs a.2 in
        let r : cs ≡ a.0 ∷ b.0 = cc b.2 in
        record { program = a.0; rest = b.0; inside = leb-true w (length ws) q; code = a.1; behind = b.1; all = r }

-- where 11 is not due, each rule passes
pub rules_obey : (rules : List ℕ) (cs : List Program) → rules_in rules ≡ answered cs → AllObey cs
unfolding rules_in
rules_obey rules cs e = all_obey (listed rules) cs e

compiled_code : (l r : Term) (left right : List ℕ) → rule_in left right ≡ answered (rule l r) → code_in (words (compile l r)) ≡ answered (compile l r)
unfolding code_in
compiled_code l r left right e =
    rw (on (passes (words (compile l r))) (compiled_passes left right l r (rule_in_accepted left right l r e)), program_in_words (compile l r))

-- the codes of accepted rules
pub compiled_rules : (rules : List Rule) → AllAccepted rules → rules_in (rule_table (codes_of rules)) ≡ answered (programs_of rules)
unfolding rules_in
compiled_rules rules h = ap all_in (listed_table (codes_of rules)) ∙ go rules h
  where
    go : (rules : List Rule) → AllAccepted rules → all_in (wholes (codes_of rules)) ≡ answered (programs_of rules)
    go [] h = refl
    go (rule l r ∷ rules) h = let (left, right, e) = h.0 in rw (compiled_code l r left right e, go rules h.1)
