-- Words written before a place, one run before the other.
use mathlib.Core.Path.{◌≡◌, refl, sym, ap, ap₂, ◌∙◌}
use Prim.Native.Nat.{ℕ, suc, ◌+◌, ◌-◌, ◌≤◌, ◌<◌}
use native.Mathlib.Omega.{arith}
use mathlib.Core.List.{List, [], ◌∷◌, ◌++◌, append_assoc, append-nil}
use lib.ListN.{length, take, drop, get_or, set, length-append, length-set, take-append-drop}
use lib.Seq.{take-take, take_at, take-suc, take-suc-set, take-set-le, take-length, length-take-le, drop_at, drop-cons, drop-drop, drop-set-lt, get_or-set_same, get_or-set_other}
use Rattle.writer.specs.Written.{Wrote, Writes, Room}

pub wrote_none : (d : List ℕ) (end : ℕ) → Wrote d d end end []
wrote_none d end = record { ends = omega arith; before = refl; behind = refl }

pub wrote_then : {d e f : List ℕ} {r a end : ℕ} {us vs : List ℕ} → Wrote d e a end vs → Wrote e f r a us → Wrote d f r end (us ++ vs)
wrote_then {d = d} {e = e} {r = r} {a = a} {end = end} {us = us} {vs = vs} v u =
    let i = v.ends in
    let j = u.ends in
    record {
      ends = rw (length-append us vs) (omega arith);
      before = u.before ∙ (sym (take-take r a e (omega arith)) ∙ ap (λ (l : List ℕ). take r l) v.before ∙ take-take r a d (omega arith));
      behind = u.behind ∙ ap (λ (l : List ℕ). us ++ l) v.behind ∙ sym (append_assoc us vs (drop end d));
    }

-- two words stored
stored : (e : List ℕ) (t x c : ℕ) → 2 ≤ t → t ≤ length e → drop (t - 2) (set (set e (t - 2) x) (t - 1) c) ≡ x ∷ c ∷ drop t e
stored e t x c h k =
    let f : List ℕ = set (set e (t - 2) x) (t - 1) c in
    let n : length f ≡ length e = length-set (set e (t - 2) x) (t - 1) c ∙ length-set e (t - 2) x in
    let a : suc (t - 2) ≡ t - 1 = omega arith in
    let b : suc (t - 1) ≡ t = omega arith in
    let p : get_or f (t - 2) 0 ≡ x = get_or-set_other (set e (t - 2) x) (t - 1) (t - 2) c 0 (λ q. omega arith) ∙ get_or-set_same e (t - 2) x 0 (omega arith) in
    let q : get_or f (t - 1) 0 ≡ c = get_or-set_same (set e (t - 2) x) (t - 1) c 0 (omega (arith, length-set e (t - 2) x)) in
    let r : drop t f ≡ drop t e = drop-set-lt t (set e (t - 2) x) (t - 1) c (omega arith) ∙ drop-set-lt t e (t - 2) x (omega arith) in
    drop-cons f (t - 2) 0 (omega arith) ∙ ap₂ {C = List ℕ} ◌∷◌ p (ap (λ (i : ℕ). drop i f) a ∙ drop-cons f (t - 1) 0 (omega arith) ∙ ap₂ {C = List ℕ} ◌∷◌ q (ap (λ (i : ℕ). drop i f) b ∙ r))

pub wrote_two : (d : List ℕ) (end x c : ℕ) → 2 ≤ end → end ≤ length d → Wrote d (set (set d (end - 2) x) (end - 1) c) (end - 2) end (x ∷ c ∷ [])
wrote_two d end x c h k = record {
  ends = omega arith;
  before = take-set-le (end - 2) (set d (end - 2) x) (end - 1) c (omega arith) ∙ take-set-le (end - 2) d (end - 2) x (omega arith);
  behind = stored d end x c h k;
}

-- ---- A part copied to place a: i words of it stand there

pub record Copying (d e part : List ℕ) (a i : ℕ) : Type 0 where
  pub within : i ≤ length part
  pub same_length : length e ≡ length d
  pub front : take (a + i) e ≡ take a d ++ take i part
  pub behind : drop (a + i) e ≡ drop (a + i) d

pub copying_none : (d part : List ℕ) (a : ℕ) → Copying d d part a 0
copying_none d part a = record {
  within = omega arith;
  same_length = refl;
  front = let z : a + 0 ≡ a = omega arith in rw z (sym (append-nil (take a d)));
  behind = refl;
}

module _ {d e part : List ℕ} {a i : ℕ} (c : Copying d e part a i) where
  pub copying_more : i < length part → a + length part ≤ length d → Copying d (set e (a + i) (get_or part i 0)) part a (i + 1)
  copying_more h k =
      let w = get_or part i 0 in
      let n = c.same_length in
      let z : a + (i + 1) ≡ suc (a + i) = omega arith in
      let y : i + 1 ≡ suc i = omega arith in
      let v : suc (a + i) ≡ a + i + 1 = omega arith in
      record {
        within = omega arith;
        same_length = length-set e (a + i) w ∙ n;
        front = rw (z, y, take-suc part i 0 h) (take-suc-set e (a + i) w (omega arith) ∙ ap (λ (l : List ℕ). l ++ (w ∷ [])) c.front ∙ append_assoc (take a d) (take i part) (w ∷ []));
        behind = rw z (drop-set-lt (suc (a + i)) e (a + i) w (omega arith) ∙ rw v (sym (drop-drop 1 (a + i) e) ∙ ap (λ (l : List ℕ). drop 1 l) c.behind ∙ drop-drop 1 (a + i) d));
      }

  pub copied : length part ≤ i → (end : ℕ) → a + length part ≡ end → end ≤ length d → Wrote d e a end part
  copied h end f k =
      let n = c.same_length in
      let j : i ≡ length part = let w = c.within in omega arith in
      let z : a + i ≡ end = omega arith in
      let t : take end e ≡ take a d ++ part = ap (λ m. take m e) (sym z) ∙ c.front ∙ ap (λ m. take a d ++ take m part) j ∙ ap (λ (l : List ℕ). take a d ++ l) (take-length part) in
      let b : drop end e ≡ drop end d = ap (λ m. drop m e) (sym z) ∙ c.behind ∙ ap (λ m. drop m d) z in
      let l : length (take a d) ≡ a = length-take-le a d (omega arith) in
      record {
        ends = f;
        before = sym (take-take a end e (omega arith)) ∙ ap (λ (x : List ℕ). take a x) t ∙ take_at (take a d) part a l;
        behind =
            ap (λ (x : List ℕ). drop a x) (sym (take-append-drop end e) ∙ ap₂ {C = List ℕ} ◌++◌ t b ∙ append_assoc (take a d) part (drop end d))
            ∙ drop_at (take a d) (part ++ drop end d) a l;
      }

-- ---- Whatever is wanted

pub record Splits (All Fore Rear : List ℕ → Type 0) : Type 0 where
  pub parts : (ws : List ℕ) → All ws → (us : List ℕ) × (vs : List ℕ) × (ws ≡ us ++ vs) × Fore us × Rear vs

pub writes_from : {All Fore : List ℕ → Type 0} {d e : List ℕ} {r end : ℕ} → ((ws : List ℕ) → All ws → Fore ws) → Writes Fore d e r end → Writes All d e r end
writes_from g w = record { does = λ ws h k. w.does ws (g ws h) k }

pub room_from : {All Fore : List ℕ → Type 0} {end : ℕ} → ((ws : List ℕ) → All ws → Fore ws) → Room All end → Room Fore end
room_from g m = record { words = m.words; wanted = g _ m.wanted; fit = m.fit }

module _ {All Fore Rear : List ℕ → Type 0} (s : Splits All Fore Rear) where
  parted_length : (ws us vs : List ℕ) → ws ≡ us ++ vs → length ws ≡ length us + length vs
  parted_length ws us vs e = ap length e ∙ length-append us vs

  -- the last part first, then what stands before it
  pub writes_then : {d e f : List ℕ} {r a end : ℕ} → Writes Rear d e a end → Writes Fore e f r a → Writes All d f r end
  writes_then {d = d} {f = f} {r = r} {a = a} {end = end} u v = record {
    does = λ ws h k.
        let p = s.parts ws h in
        let n = parted_length ws p.0 p.1 p.2 in
        let y = u.does p.1 p.4 (omega arith) in
        let i = y.ends in
        rw p.2 (wrote_then y (v.does p.0 p.3 (omega arith)));
  }

  pub room_last : {end : ℕ} → Room All end → Room Rear end
  room_last m =
      let p = s.parts m.words m.wanted in
      let n = parted_length m.words p.0 p.1 p.2 in
      let k = m.fit in
      record { words = p.1; wanted = p.4; fit = omega arith }

  pub room_rest : {d e : List ℕ} {a end : ℕ} → Room All end → Writes Rear d e a end → Room Fore a
  room_rest m u =
      let p = s.parts m.words m.wanted in
      let n = parted_length m.words p.0 p.1 p.2 in
      let k = m.fit in
      let i = (u.does p.1 p.4 (omega arith)).ends in
      record { words = p.0; wanted = p.3; fit = omega arith }

-- where words are wanted they end where they should
pub writes_below : {All : List ℕ → Type 0} {d e : List ℕ} {r end : ℕ} → Room All end → Writes All d e r end → r ≤ end
writes_below m w = let i = (w.does m.words m.wanted m.fit).ends in omega arith

-- exactly these words
abbrev pub Exactly : List ℕ → List ℕ → Type 0
Exactly us ws = ws ≡ us

pub writes_exactly : {All : List ℕ → Type 0} {d e : List ℕ} {r end : ℕ} {us : List ℕ} → ((ws : List ℕ) → All ws → ws ≡ us) → Wrote d e r end us → Writes All d e r end
writes_exactly g w = record { does = λ ws h k. rw (g ws h) w }
