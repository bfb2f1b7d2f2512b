-- The keys of a side's metavariables, as a walk of its table puts them down; and that a metavariable is known by its key.
use mathlib.Core.Path.{◌≡◌, refl, sym, ap, ap₂, ◌∙◌}
use Prim.Native.Nat.{ℕ, zero, suc, ◌+◌, ◌*◌, ◌%◌, ◌≤◌, ◌<◌}
use native.Mathlib.Numerals.{add-one}
use native.Mathlib.Omega.{arith}
use mathlib.Core.Bool.{Bool, true, false, ◌&&◌, ◌||◌}
use mathlib.Core.List.{List, [], ◌∷◌, ◌++◌, append-nil}
use lib.Dec.{eqb, leb, ltb}
use lib.ListN.{length, take, drop, get_or, set, length-set}
use lib.Seq.{length-take-le, take-suc-set, append_snoc}
use borrow.Author.Tests.{eqb-true, eqb-false, eq-eqb, le-leb, lt-ltb, leb-true, ltb-true, ltb-false}
use Rattle.documents.specs.Lists.{every, member}
use Rattle.documents.specs.Terms.{Term, Terms}
use Rattle.documents.specs.Rules.{metas, among, contains}
use Rattle.documents.proofs.Lists.{never, on, off, of_and, case}
use Rattle.tables.specs.Parts.{terms, front, Begins}
use Rattle.std.specs.Prelude.{Some, None}
use Rattle.tables.specs.declared.walk.Node.{Node}
use Rattle.tables.specs.declared.walk.Nodes.{Nodes}
use Rattle.tables.specs.Nodes.{Stands, starts, node_gives, owes, is_metavariable}
use Rattle.tables.proofs.Walks.{Walk, walk_on, walk_from, ended}
use Rattle.tables.proofs.Sides.{metas_front, metas_here, metas_behind, unequal}
use Rattle.tables.proofs.Nodes.{metavariable_range, metas_first, metas_at, metas_past, owes_none, stood}
use Rattle.keys.specs.Keys.{key, keys_of, Keyed}

-- ---- Names

-- the names are below 65,536, as those of a table are
abbrev Named : List (ℕ × ℕ) → Type 0
Named [] = Unit {0}
Named (m ∷ ms) = (m.0 < 65536) × Named ms

named_none : {t : List ℕ} {a n : ℕ} → Walk t a n → n ≤ 0 → Named (metas (terms n (drop a t)))
named_none w h = rw (ended w h) tt

named_walk : (fuel : ℕ) {t : List ℕ} {a n : ℕ} → Walk t a n → length t ≤ a + fuel → Named (metas (terms n (drop a t)))
named_walk zero w h = named_none w (let q = w.within in omega arith)
named_walk (suc fuel) {t} {a} {n} w h =
    case (λ q. Named (metas (terms n (drop a t)))) (ltb 0 n)
    (λ z. let i = ltb-true 0 n (on (ltb 0 n) z) in
    let rest = named_walk fuel (walk_on w i) (omega arith) in
    case (λ q. Named (metas (terms n (drop a t)))) (leb 131072 (get_or t a 0) && ltb (get_or t a 0) 196608)
    (λ e. let b = of_and (leb 131072 (get_or t a 0)) (ltb (get_or t a 0) 196608) e in
    let x = leb-true _ _ (on _ b.0) in
    let y = ltb-true _ _ (on _ b.1) in
    rw (metas_here w i x y) (omega arith, rest))
    (λ e. rw (metas_behind w i (λ lo hi. never (cc (sym (off (leb 131072 (get_or t a 0) && ltb (get_or t a 0) 196608) e) ∙ ap₂ (λ (p q : Bool). p && q) (le-leb _ _ lo) (lt-ltb _ _ hi))))) rest))
    (λ z. named_none w (ltb-false 0 n (off (ltb 0 n) z)))

named : {part : List ℕ} → Begins 1 part → Named (metas (front part))
named {part} b = rw (metas_front b) at (named_walk (length part) (walk_from b) (omega arith))

-- ---- A metavariable is known by its key

same_key : (m p : ℕ × ℕ) → m.0 < 65536 → p.0 < 65536 → eqb p.0 m.0 && eqb p.1 m.1 ≡ eqb (key p) (key m)
same_key m p h k = go (eqb (key p) (key m)) refl
  where
    go : (q : Bool) → eqb (key p) (key m) ≡ q → eqb p.0 m.0 && eqb p.1 m.1 ≡ q
    go true e =
        let f = eqb-true (key p) (key m) e in
        rw (eq-eqb p.0 m.0 (omega arith), eq-eqb p.1 m.1 (omega arith))
    go false e =
        unequal p.0 m.0 p.1 m.1
        (λ x y. eqb-false (key p) (key m) e (ap₂ (λ (a b : ℕ). 131072 + a + 65536 * b) x y))

among_keys : (m : ℕ × ℕ) → m.0 < 65536 → (ps : List (ℕ × ℕ)) → Named ps → among ps m ≡ member (keys_of ps) (key m)
among_keys m h [] n = refl
among_keys m h (p ∷ ps) n = ap₂ (λ (a b : Bool). a || b) (same_key m p h n.0) (among_keys m h ps n.1)

contains_keys : (ms ps : List (ℕ × ℕ)) → Named ms → Named ps → contains ms ps ≡ every (member (keys_of ps)) (keys_of ms)
contains_keys [] ps n k = refl
contains_keys (m ∷ ms) ps n k = ap₂ (λ (a b : Bool). a && b) (among_keys m n.0 ps k) (contains_keys ms ps n.1 k)

-- ---- The walk that puts them down

-- with the keys of the terms still owed, those put down are the side's
pub record Keying (part keys : List ℕ) (walk : Nodes) (next : ℕ) : Type 0 where
  pub short : length walk.part.now ≤ 512
  pub size : length keys ≡ 256
  pub few : 2 * next ≤ walk.at
  pub same : take next keys ++ keys_of (metas (owes walk)) ≡ keys_of (metas (front part))

pub keying_from : (part keys : List ℕ) (s : Nodes) → Begins 1 part → length part ≤ 512 → length keys ≡ 256 → starts part s → Keying part keys s 0
keying_from part keys s b h e i = record {
  short = rw i.0 h;
  size = e;
  few = omega arith;
  same = ap keys_of (metas_first part s b i);
}

pub keying_ended : {part keys : List ℕ} {next : ℕ} (s t : Nodes) → Keying part keys s next → Stands s → node_gives s None t → Keyed (front part) keys next
keying_ended {part} {keys} {next} s t k b g = record {
  size = k.size;
  within =
      let w = b.1 in
      let h = k.short in
      let f = k.few in
      omega arith;
  keys = sym (append-nil (take next keys)) ∙ ap (λ (ts : Terms). take next keys ++ keys_of (metas ts)) (sym (owes_none s t b g)) ∙ k.same;
}

module _ {part keys : List ℕ} {next : ℕ} (s t : Nodes) (n : Node) (k : Keying part keys s next) (b : Stands s) (g : node_gives s (Some n) t) where
  keying_room : next < 256
  keying_room =
      let w = (stood s t n b g).within in
      let o = g.1.0 in
      let h = k.short in
      let f = k.few in
      omega arith

  -- past a node that is no metavariable
  pub keying_on : is_metavariable n.word ≡ false → Keying part keys t next
  keying_on m = record {
    short = rw g.0 k.short;
    size = k.size;
    few = let f = k.few in let a = g.1.4 in omega arith;
    same = ap (λ (ms : List (ℕ × ℕ)). take next keys ++ keys_of ms) (sym (metas_past s t n b g m)) ∙ k.same;
  }

  module _ (m : is_metavariable n.word ≡ true) where
    -- past a metavariable, whose key is put down
    pub keying_key : Keying part (set keys next (n.word + 65536 * n.count)) t (next + 1)
    keying_key =
        let w = n.word + 65536 * n.count in
        let r : (131072 ≤ n.word) × (n.word < 196608) = metavariable_range m in
        let z = k.size in
        let room = keying_room in
        let e : 131072 + n.word % 65536 + 65536 * n.count ≡ w = omega arith in
        let here : keys_of (metas (owes s)) ≡ w ∷ keys_of (metas (owes t)) = rw e at (ap keys_of (metas_at s t n b g m)) in
        record {
          short = rw g.0 k.short;
          size = length-set keys next w ∙ k.size;
          few = let f = k.few in let a = g.1.4 in omega arith;
          same =
              rw (add-one next, take-suc-set keys next w (omega arith))
              (append_snoc (take next keys) w (keys_of (metas (owes t))) ∙ ap (λ (l : List ℕ). take next keys ++ l) (sym here) ∙ k.same);
        }

-- ---- The keys of two sides

module _ {t : Term} {words : List ℕ} {n : ℕ} (k : Keyed t words n) where
  -- so many come first
  pub key_count : n ≡ length (take n words)
  key_count = let w = k.within in let s = k.size in sym (length-take-le n words (omega arith))

pub known_by_keys : {right left rights lefts : List ℕ} {r l : ℕ} → Begins 1 right → Begins 1 left → Keyed (front right) rights r → Keyed (front left) lefts l
    → every (member (take l lefts)) (take r rights) ≡ contains (metas (front right)) (metas (front left))
known_by_keys {right} {left} b d x y = rw (x.keys, y.keys) (sym (contains_keys (metas (front right)) (metas (front left)) (named b) (named d)))
