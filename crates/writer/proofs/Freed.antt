-- A variable that is free in an entry: its body, found behind its key, or its own index.
use mathlib.Core.Path.{◌≡◌, refl, ap, ◌∙◌}
use mathlib.Core.Logic.{◌⊎◌, inl, inr, ⊎_elim}
use Prim.Native.Nat.{ℕ, ◌+◌, ◌-◌, ◌*◌, ◌≤◌, ◌<◌}
use native.Mathlib.Omega.{arith}
use mathlib.Core.Bool.{Bool, true, false, not, cond}
use mathlib.Core.Option.{Option, none, some}
use mathlib.Core.List.{List, [], ◌∷◌, map}
use lib.Dec.{eqb}
use lib.ListN.{length, get_or, drop}
use borrow.Author.Tests.{eq-eqb}
use Rattle.documents.specs.Lists.{assoc, pairlists}
use Rattle.documents.specs.Terms.{one, many}
use Rattle.documents.proofs.Lists.{never}
use Rattle.std.specs.Prelude.{Some, None}
use Rattle.instructions.specs.Bodies.{body_end, Readable, key_place, found_at}
use Rattle.trees.specs.Trees.{Tree, Leaf, More, count, or_one, depth_of, Writer, or_moved_words, words_of}
use Rattle.links.specs.Nodewise.{seen_at}
use Rattle.links.specs.Standing.{entry_at, Safe, root, held, Stands}
use Rattle.writer.specs.Wanted.{TreeAt, FreeAt, Met}

pub key_found : (o : Option ℕ) (key : ℕ) → found_at o ≡ Some key → o ≡ some key
key_found none key e = never (cc)
key_found (some q) key e = cc

pub key_missing_lem : (o : Option ℕ) → found_at o ≡ None → o ≡ none
key_missing_lem none e = refl
key_missing_lem (some q) e = never (cc)

module _ (code subject entries work : List ℕ) (lo hi l : ℕ) where
  held_readable : (ps : Tree many) (ks : List ℕ) (q : ℕ) → Stands code subject entries (drop 4096 work) lo hi work ps (held ks q) → q ≤ hi → hi ≤ length code
      → Readable code q (count ps)
  held_readable Leaf ks q s h m = omega arith
  held_readable (More p ps) [] q s h m = absurd s
  held_readable (More p ps) (k ∷ ks) q s h m = let b = s.0.high in (omega arith, held_readable ps ks (body_end code q) s.2 b m)

  -- the body behind the key that was found
  record BodyAt (ks : List ℕ) (ps : Tree many) (y key : ℕ) : Type 0 where
    body : Tree one
    deep : assoc (pairlists ks (depth_of (entry_at subject entries) ps)) y ≡ some (depth_of (entry_at subject entries) body)
    found : assoc (pairlists ks (words_of (entry_at subject entries) ps)) y ≡ some (words_of (entry_at subject entries) body)
    low : lo ≤ key
    high : body_end code key ≤ hi
    safe : Safe l body
    stands : (get_or work key 0 ≡ 0) ⊎ Stands code subject entries (drop 4096 work) (key + 2) (body_end code key) work body (root (get_or work key 0))

  held_found : (ps : Tree many) (ks : List ℕ) (q y key : ℕ) → Stands code subject entries (drop 4096 work) lo hi work ps (held ks q) → Safe l ps
      → key_place code q (count ps) y ≡ some key → BodyAt ks ps y key
  unfolding key_place
  held_found Leaf ks q y key s f e = never (cc)
  held_found (More p ps) [] q y key s f e = absurd s
  held_found (More p ps) (k ∷ ks) q y key s f e =
      go (eqb k y) refl (λ d. held_found ps ks (body_end code q) y key s.2 f.1 d) (rw s.0.key at e)
    where
      measured : (get_or work q 0 ≡ 0) ⊎ Stands code subject entries (drop 4096 work) (q + 2) (body_end code q) work p (root (get_or work q 0))
      measured = ⊎_elim (λ z. inl z) (λ z. inr z.1) s.1

      later : BodyAt ks ps y key → eqb k y ≡ false → BodyAt (k ∷ ks) (More p ps) y key
      later b t = record { body = b.body; deep = rw t b.deep; found = rw t b.found; low = b.low; high = b.high; safe = b.safe; stands = b.stands }

      go : (t : Bool) → eqb k y ≡ t → (key_place code (body_end code q) (count ps) y ≡ some key → BodyAt ks ps y key) → cond t (some q) (key_place code (body_end code q) (count ps) y) ≡ some key → BodyAt (k ∷ ks) (More p ps) y key
      go true t r e =
          let z : q ≡ key = cc in
          rw (← z) (record { body = p; deep = rw t; found = rw t; low = s.0.low; high = s.0.high; safe = f.0; stands = measured })
      go false t r e = later (r e) t

  held_none : (ps : Tree many) (ks : List ℕ) (q y : ℕ) → Stands code subject entries (drop 4096 work) lo hi work ps (held ks q)
      → key_place code q (count ps) y ≡ none → assoc (pairlists ks (words_of (entry_at subject entries) ps)) y ≡ none
  unfolding key_place
  held_none Leaf [] q y s e = refl
  held_none Leaf (k ∷ ks) q y s e = refl
  held_none (More p ps) [] q y s e = absurd s
  held_none (More p ps) (k ∷ ks) q y s e = go (eqb k y) (λ d. held_none ps ks (body_end code q) y s.2 d) (rw s.0.key at e)
    where
      go : (t : Bool) → (key_place code (body_end code q) (count ps) y ≡ none → assoc (pairlists ks (words_of (entry_at subject entries) ps)) y ≡ none)
          → cond t (some q) (key_place code (body_end code q) (count ps) y) ≡ none
          → cond t (some (words_of (entry_at subject entries) p)) (assoc (pairlists ks (words_of (entry_at subject entries) ps)) y) ≡ none
      go true r e = never (cc)
      go false r e = r e

seen_is : (work : List ℕ) (o : Option ℕ) (key : ℕ) → o ≡ some key → seen_at work o ≡ true → get_or work key 0 ≡ 0 → ⊥
seen_is work none key e s z = never (cc)
seen_is work (some q) key e s z =
    let y : q ≡ key = cc in
    let t : not true ≡ true = rw (y, eq-eqb (get_or work key 0) 0 z) at s in
    never (cc)

-- a PUSHI and its bodies lie in the code
pub record Freeing (code : List ℕ) (z : ℕ) : Type 0 where
  pub within : z + 3 < length code
  pub shift : get_or code (z + 2) 0 ≤ 127
  pub bodies : Readable code (z + 4) (get_or code (z + 3) 0)

module _ {code subject entries work : List ℕ} {words l level offset : ℕ} {nst : List ℕ} {z x n : ℕ} where
  pub free_readable : {ws : List ℕ} → FreeAt code subject entries work words l level offset nst z x n ws → Freeing code z
  free_readable t =
      let s = t.standing in
      let b = s.stands.2 in
      let h = s.stands.0.high in
      let m = s.short in
      record {
        within = omega arith;
        shift = rw b.shift b.low;
        bodies = rw b.keys (held_readable code subject entries work s.lo s.hi l t.bodies t.ks (z + 4) s.stands.4 (omega arith) m);
      }

  pub free_moved : key_place code (z + 4) (get_or code (z + 3) 0) (x - n) ≡ none → (ws : List ℕ) → FreeAt code subject entries work words l level offset nst z x n ws
      → ws ≡ (x + (get_or code (z + 2) 0 + offset) - 64) ∷ 0 ∷ []
  free_moved k ws t =
      let s = t.standing in
      let b = s.stands.2 in
      let y : 0 * 65536 + (x + t.D + offset - 64) ≡ x + (t.D + offset) - 64 = omega arith in
      t.these
      ∙ ap (λ (o : Option Writer). or_moved_words o t.D n x offset nst) (held_none code subject entries work s.lo s.hi l t.bodies t.ks (z + 4) (x - n) s.stands.4 (rw b.keys at k))
      ∙ rw (y, b.shift)

  module _ (m : Met code work z x n) (key : ℕ) (k : key_place code (z + 4) (get_or code (z + 3) 0) (x - n) ≡ some key) where
    body_at : {ws : List ℕ} (t : FreeAt code subject entries work words l level offset nst z x n ws)
        → BodyAt code subject entries work t.standing.lo t.standing.hi l t.ks t.bodies (x - n) key
    body_at t =
        let s = t.standing in
        held_found code subject entries work s.lo s.hi l t.bodies t.ks (z + 4) (x - n) key s.stands.4 s.safe.1 (rw s.stands.2.keys at k)

    -- its words are fewer than those around it
    pub free_falls : {ws : List ℕ} → FreeAt code subject entries work words l level offset nst z x n ws → (key + 1 < length code) × (get_or code (key + 1) 0 + 2 ≤ words)
    free_falls t =
        let s = t.standing in
        let b = body_at t in
        let p = b.low in
        let q = b.high in
        let i = s.short in
        let j = s.few in
        (omega arith, omega arith)

    pub free_body : (raised : List ℕ) → raised ≡ map (λ y. y + n) nst → (ws : List ℕ) → FreeAt code subject entries work words l level offset nst z x n ws
        → TreeAt code subject entries work (get_or code (key + 1) 0) l level (offset + n) raised (get_or work key 0) ws
    free_body raised r ws t =
        let s = t.standing in
        let b = body_at t in
        let i = s.short in
        let j = b.high in
        record {
          tree = b.body;
          standing = record {
            lo = key + 2;
            hi = body_end code key;
            stands = ⊎_elim (λ q. absurd (seen_is work _ key k m.seen q)) (λ q. q) b.stands;
            safe = b.safe;
            short = omega arith;
            few = omega arith;
          };
          shallow = let d = ap (λ (o : Option ℕ). or_one o) b.deep in omega (arith, d, t.shallow);
          these = t.these ∙ ap (λ (o : Option Writer). or_moved_words o t.D n x offset nst) b.found ∙ rw r;
        }
