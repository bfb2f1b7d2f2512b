-- The entry of a PUSHIMM or PUSHI: its words in the subject, copied or node by node.
use mathlib.Core.Path.{◌≡◌, refl, sym, ap, ap₂, ◌∙◌}
use Prim.Native.Nat.{ℕ, suc, ◌+◌, ◌-◌, ◌*◌, ◌/◌, ◌≤◌, ◌<◌}
use native.Mathlib.Omega.{arith}
use mathlib.Core.Bool.{Bool, true, false, ◌&&◌, cond}
use mathlib.Core.Option.{Option, none}
use mathlib.Core.List.{List, [], ◌∷◌, ◌++◌, append_assoc, append-nil}
use lib.Dec.{eqb}
use lib.ListN.{length, get_or, take, drop, length-drop, length-append}
use lib.Seq.{take_at, length-take-le, get_or-take, get_or-drop}
use borrow.Author.Tests.{ne_eqb, eqb-true}
use Rattle.documents.specs.Lists.{assoc, pairlists}
use Rattle.documents.specs.Terms.{Term, one, many}
use Rattle.documents.specs.Tables.{table_of, Fits, nodes, depth}
use Rattle.documents.proofs.Lists.{on, T_of, of_and}
use Rattle.documents.proofs.Tables.{length_table_of}
use Rattle.documents.proofs.Nodes.{depth_positive}
use Rattle.instructions.specs.Bodies.{key_place}
use Rattle.trees.specs.Trees.{Tree, Cell, Block, Bound, Whole, Pushed, Leaf, More, count, or_one, depth_of, Writer, or_moved_words, spread_words, words_of}
use Rattle.trees.proofs.Sizes.{depth_nodes}
use Rattle.survey.specs.Places.{place, places_of}
use Rattle.survey.proofs.Places.{length_places}
use Rattle.links.specs.Nodewise.{is_free, total, inside_of, node_depth, node_words, seen_at, node_seen}
use Rattle.links.specs.Standing.{entry_place, entry_at, Scene, root}
use Rattle.links.proofs.Gathered.{gathered, total_is}
use Rattle.links.proofs.Entered.{entered}
use Rattle.links.proofs.Spread.{total_none, spread_depth_lem}
use Rattle.writer.specs.Wanted.{moves_nothing, Standing, TreeAt, EntryPart, FreeAt, Met}
use Rattle.writer.proofs.Writings.{Splits}
use Rattle.writer.proofs.Spreading.{spread_is, spread_same, total_more, total_each, total_greatest, Below, node_below}

-- where the entry of an instruction at z stands
pub record NamedAt (code subject entries work : List ℕ) (z : ℕ) : Type 0 where
  pub within : z + 1 < length code
  pub there : get_or code (z + 1) 0 < length entries
  pub end : get_or work (z + 1) 0 ≡ entry_place entries (get_or code (z + 1) 0) + 2 * nodes (entry_at subject entries (get_or code (z + 1) 0))

pub record PushedAt (code : List ℕ) (z : ℕ) : Type 0 where
  pub within : z + 3 < length code
  pub shift : get_or code (z + 2) 0 ≤ 127
  pub op : get_or code z 0 ≡ 13

module _ (code subject entries work : List ℕ) (words l level offset : ℕ) (nst : List ℕ) (e z : ℕ) where
  -- the words of the first k nodes of the entry e of a PUSHI at z
  pub record PartAt (k : ℕ) (ws : List ℕ) : Type 0 where
    pub D : ℕ
    pub ks : List ℕ
    pub bodies : Tree many
    pub standing : Standing code subject entries work words l (Pushed e D ks bodies) (root z)
    pub shallow : level + depth_of (entry_at subject entries) (Pushed e D ks bodies) ≤ 64
    pub these : ws ≡ total ◌++◌ []
        (node_words (assoc (pairlists ks (words_of (entry_at subject entries) bodies))) D offset nst (get_or (drop 4096 work) (entry_place entries e / 2) 0))
        k (drop (entry_place entries e) subject) (drop (entry_place entries e / 2) (drop 4096 work))

  -- of a node, by its words and the abstractions above it
  pub record NodeAt (w c n : ℕ) (ws : List ℕ) : Type 0 where
    pub D : ℕ
    pub ks : List ℕ
    pub bodies : Tree many
    pub standing : Standing code subject entries work words l (Pushed e D ks bodies) (root z)
    pub shallow : level + cond (is_free w n) (or_one (assoc (pairlists ks (depth_of (entry_at subject entries) bodies)) (w - n))) 1 ≤ 64
    pub these : ws ≡ cond (is_free w n) (or_moved_words (assoc (pairlists ks (words_of (entry_at subject entries) bodies)) (w - n)) D n w offset nst) (w ∷ c ∷ [])

bare : (ks : List ℕ) (y : ℕ) → assoc {A = Writer} (pairlists ks []) y ≡ none
bare [] y = refl
bare (k ∷ ks) y = refl

table_part : (a : Term) (s later : List ℕ) (m : ℕ) → s ≡ table_of a ++ later → m ≡ 2 * nodes a → table_of a ≡ take m s
table_part a s later m e f = rw (e, f) (sym (take_at (table_of a) later (2 * nodes a) (length_table_of a)))

-- the words and places of an entry, and those behind them
spread_total : (f : ℕ → Option Writer) (D off : ℕ) (nst : List ℕ) (a : Term) (s hs later later_places : List ℕ) (r d n : ℕ) → s ≡ table_of a ++ later
    → hs ≡ places_of d n a ++ later_places → r ≡ place d n → Fits a → depth a ≤ 256
    → spread_words f D 0 off nst a ≡ total ◌++◌ [] (node_words f D off nst r) (nodes a) s hs
spread_total f D off nst a s hs later later_places r d n e g h fits deep =
    let y : d + 0 ≡ d = omega arith in
    let x : n + 0 ≡ n = omega arith in
    let k : gathered ◌++◌ [] (node_words f D off nst (place d n)) d n a ≡ spread_words f D 0 off nst a =
    rw (y, x) at (spread_is f D off nst d n a 0 0 fits (omega arith) (omega arith))
    in
    rw (e, g, h) (sym (total_is ◌++◌ [] (node_words f D off nst (place d n)) append_assoc (λ v. refl) append-nil a d n later later_places ∙ k))

-- the table of an entry is a part of the subject
entry_words : {code subject entries work : List ℕ} → Scene code subject entries work → (e : ℕ) → e < length entries → (first last : ℕ) → first ≡ entry_place entries e
    → last ≡ entry_place entries e + 2 * nodes (entry_at subject entries e) → table_of (entry_at subject entries e) ≡ take (last - first) (drop first subject)
entry_words {subject = subject} {entries = entries} sc e h first last f g =
    let n = entered sc e h in
    let a = entry_at subject entries e in
    table_part a (drop first subject) n.later (last - first) (ap (λ i. drop i subject) f ∙ n.words) (omega arith)

-- the part of the subject that an instruction's entry takes
pub named_part : {code subject entries work : List ℕ} → Scene code subject entries work → {z : ℕ} → NamedAt code subject entries work z
    → (entry_place entries (get_or code (z + 1) 0) + 2 ≤ get_or work (z + 1) 0) × (get_or work (z + 1) 0 ≤ length subject)
named_part {code = code} {subject = subject} {entries = entries} sc {z} n =
    let a = entry_at subject entries (get_or code (z + 1) 0) in
    let w = (entered sc (get_or code (z + 1) 0) n.there).within in
    let e = n.end in
    let h = depth_positive a in
    let k = depth_nodes a in
    (omega arith, omega arith)

still_is : (code : List ℕ) (z offset : ℕ) → get_or code z 0 ≡ 13 → moves_nothing code z offset ≡ true → (get_or code (z + 3) 0 ≡ 0) × (get_or code (z + 2) 0 + offset ≡ 64)
unfolding moves_nothing
still_is code z offset op m =
    let k : eqb (get_or code (z + 3) 0) 0 && eqb (get_or code (z + 2) 0 + offset) 64 ≡ true = rw (ne_eqb (get_or code z 0) 12 (λ q. omega arith)) at m in
    let b = of_and (eqb (get_or code (z + 3) 0) 0) (eqb (get_or code (z + 2) 0 + offset) 64) (T_of _ k) in
    (eqb-true _ _ (on _ b.0), eqb-true _ _ (on _ b.1))

module _ {code subject entries work : List ℕ} {words l level offset : ℕ} {nst : List ℕ} {z : ℕ} where
  module _ (above : 11 ≤ get_or code z 0) (other : get_or code z 0 ≡ 11 → ⊥) where
    pub tree_named : {ws : List ℕ} → TreeAt code subject entries work words l level offset nst z ws → NamedAt code subject entries work z
    tree_named t = go t.tree t.standing
      where
        go : (p : Tree one) → Standing code subject entries work words l p (root z) → NamedAt code subject entries work z
        go (Cell x ps) s = absurd (omega (arith, above, s.stands.0.is))
        go (Block p) s = absurd (omega (arith, above, s.stands.0.is))
        go (Bound x) s = absurd (other s.stands.0.is)
        go (Whole e) s =
            let n = s.stands.1 in
            record { within = omega (arith, s.stands.0.high, s.short); there = rw n.operand n.there; end = rw n.operand n.end }
        go (Pushed e D ks ps) s =
            let n = s.stands.1 in
            record { within = omega (arith, s.stands.0.high, s.short); there = rw n.operand n.there; end = rw n.operand n.end }

    pub tree_pushed : {ws : List ℕ} → TreeAt code subject entries work words l level offset nst z ws → (get_or code z 0 ≡ 12 → ⊥) → PushedAt code z
    tree_pushed t whole = go t.tree t.standing
      where
        go : (p : Tree one) → Standing code subject entries work words l p (root z) → PushedAt code z
        go (Cell x ps) s = absurd (omega (arith, above, s.stands.0.is))
        go (Block p) s = absurd (omega (arith, above, s.stands.0.is))
        go (Bound x) s = absurd (other s.stands.0.is)
        go (Whole e) s = absurd (whole s.stands.0.is)
        go (Pushed e D ks ps) s =
            let b = s.stands.2 in
            record { within = omega (arith, s.stands.0.high, s.short); shift = rw b.shift b.low; op = s.stands.0.is }

    pub copied_words : Scene code subject entries work → moves_nothing code z offset ≡ true → (first last : ℕ) → first ≡ entry_place entries (get_or code (z + 1) 0)
        → last ≡ get_or work (z + 1) 0 → (ws : List ℕ) → TreeAt code subject entries work words l level offset nst z ws → ws ≡ take (last - first) (drop first subject)
    copied_words sc m first last f g ws t = go t.tree t.standing t.these
      where
        words_are : (e : ℕ) → get_or code (z + 1) 0 ≡ e → e < length entries → get_or work (z + 1) 0 ≡ entry_place entries e + 2 * nodes (entry_at subject entries e)
            → table_of (entry_at subject entries e) ≡ take (last - first) (drop first subject)
        words_are e p h q = entry_words sc e h first last (f ∙ ap (entry_place entries) p) (g ∙ q)

        go : (p : Tree one) → Standing code subject entries work words l p (root z) → ws ≡ words_of (entry_at subject entries) p offset nst
            → ws ≡ take (last - first) (drop first subject)
        go (Cell x ps) s e = absurd (omega (arith, above, s.stands.0.is))
        go (Block p) s e = absurd (omega (arith, above, s.stands.0.is))
        go (Bound x) s e = absurd (other s.stands.0.is)
        go (Whole x) s e = let n = s.stands.1 in e ∙ words_are x n.operand n.there n.end
        go (Pushed x D ks Leaf) s e =
            let n = s.stands.1 in
            let b = s.stands.2 in
            let y = (still_is code z offset s.stands.0.is m).1 in
            e ∙ spread_same (assoc (pairlists ks [])) D offset nst (bare ks) (rw b.shift at y) 0 (entry_at subject entries x) ∙ words_are x n.operand n.there n.end
        go (Pushed x D ks (More p ps)) s e = absurd (omega (arith, (still_is code z offset s.stands.0.is m).0, s.stands.2.keys))

  -- ---- Node by node

  pub tree_part : Scene code subject entries work → get_or code z 0 ≡ 13 → (ws : List ℕ) → TreeAt code subject entries work words l level offset nst z ws
      → PartAt code subject entries work words l level offset nst (get_or code (z + 1) 0) z (nodes (entry_at subject entries (get_or code (z + 1) 0))) ws
  tree_part sc op ws t = go t.tree t.standing t.shallow t.these
    where
      all : (e D : ℕ) (ks : List ℕ) (ps : Tree many) → Standing code subject entries work words l (Pushed e D ks ps) (root z)
          → level + depth_of (entry_at subject entries) (Pushed e D ks ps) ≤ 64 → ws ≡ words_of (entry_at subject entries) (Pushed e D ks ps) offset nst
          → PartAt code subject entries work words l level offset nst e z (nodes (entry_at subject entries e)) ws
      all e D ks ps s d q =
          let n = entered sc e s.stands.1.there in
          let i = n.shallow in
          record {
            D = D;
            ks = ks;
            bodies = ps;
            standing = s;
            shallow = d;
            these =
                q
                ∙ spread_total (assoc (pairlists ks (words_of (entry_at subject entries) ps))) D offset nst (entry_at subject entries e)
                (drop (entry_place entries e) subject) (drop (entry_place entries e / 2) (drop 4096 work)) n.later n.later_places
                (get_or (drop 4096 work) (entry_place entries e / 2) 0) n.level n.above n.words n.placed_so n.root n.fits (omega arith);
          }

      go : (p : Tree one) → Standing code subject entries work words l p (root z) → level + depth_of (entry_at subject entries) p ≤ 64 → ws ≡ words_of (entry_at subject entries) p offset nst
          → PartAt code subject entries work words l level offset nst (get_or code (z + 1) 0) z (nodes (entry_at subject entries (get_or code (z + 1) 0))) ws
      go (Cell x ps) s d e = absurd (omega (arith, op, s.stands.0.is))
      go (Block p) s d e = absurd (omega (arith, op, s.stands.0.is))
      go (Bound x) s d e = absurd (omega (arith, op, s.stands.0.is))
      go (Whole x) s d e = absurd (omega (arith, op, s.stands.0.is))
      go (Pushed x D ks ps) s d e = rw s.stands.1.operand (all x D ks ps s d e)

  pub part_none : {e : ℕ} (ws : List ℕ) (k : ℕ) → k ≡ 0 → PartAt code subject entries work words l level offset nst e z k ws → ws ≡ []
  part_none {e = e} ws k h p = p.these ∙ rw h (total_none ◌++◌ [] _ _ _)

-- ---- A node of an entry: where the walk reads it

below_so : (a : Term) (hs later_places : List ℕ) (r d m k h : ℕ) → hs ≡ places_of d m a ++ later_places → r ≡ place d m → get_or hs k 0 ≡ h → depth a ≤ 64 → k < nodes a
    → Below r h
below_so a hs later_places r d m k h e f g deep few = rw (← g, e, f) (node_below d m a later_places k deep few)

-- the entry e as a part of the subject, and where the places of its nodes begin
pub record Parted (subject entries part : List ℕ) (places e : ℕ) : Type 0 where
  pub there : e < length entries
  pub words : part ≡ take (2 * nodes (entry_at subject entries e)) (drop (entry_place entries e) subject)
  pub places_are : places ≡ 4096 + entry_place entries e / 2

pub entry_part : {code subject entries work : List ℕ} {z first : ℕ} → first ≡ entry_place entries (get_or code (z + 1) 0)
    → EntryPart code z (take (get_or work (z + 1) 0 - first) (drop first subject)) (4096 + first / 2) subject entries work
entry_part {subject = subject} {work = work} {z = z} e =
    record { part_is = ap (λ f. take (get_or work (z + 1) 0 - f) (drop f subject)) e; places_are = ap (λ f. 4096 + f / 2) e }

pub named_parted : {code subject entries work part : List ℕ} {z places : ℕ} → NamedAt code subject entries work z → EntryPart code z part places subject entries work
    → Parted subject entries part places (get_or code (z + 1) 0)
named_parted {code = code} {subject = subject} {entries = entries} {work = work} {z = z} n p =
    let i = n.end in
    let size : get_or work (z + 1) 0 - entry_place entries (get_or code (z + 1) 0) ≡ 2 * nodes (entry_at subject entries (get_or code (z + 1) 0)) = omega arith in
    record {
      there = n.there;
      words = p.part_is ∙ ap (λ m. take m (drop (entry_place entries (get_or code (z + 1) 0)) subject)) size;
      places_are = p.places_are;
    }

module _ {code subject entries work : List ℕ} (sc : Scene code subject entries work) {part : List ℕ} {places e : ℕ} (d : Parted subject entries part places e) where
  abbrev size : ℕ
  size = nodes (entry_at subject entries e)

  long_words : 2 * size ≤ length (drop (entry_place entries e) subject)
  long_words = let w = (entered sc e d.there).within in rw (length-drop (entry_place entries e) subject) (omega arith)

  long_places : size ≤ length (drop (entry_place entries e / 2) (drop 4096 work))
  long_places =
      let n = entered sc e d.there in
      let z = ap length n.placed_so ∙ length-append (places_of n.level n.above (entry_at subject entries e)) n.later_places in
      let y = length_places n.level n.above (entry_at subject entries e) in
      omega arith

  pub parted_length : length part ≡ 2 * size
  parted_length = ap length d.words ∙ length-take-le (2 * size) (drop (entry_place entries e) subject) long_words

  parted_places : places + size ≤ 8192
  parted_places =
      let w = (entered sc e d.there).within in
      let v = (entered sc e d.there).even in
      let f = sc.few in
      let p = d.places_are in
      omega arith

  pub parted_root : places < 8192
  parted_root =
      let p = parted_places in
      let h = depth_positive (entry_at subject entries e) in
      let k = depth_nodes (entry_at subject entries e) in
      omega arith

  root_read : get_or (drop 4096 work) (entry_place entries e / 2) 0 ≡ get_or work places 0
  root_read = get_or-drop 4096 work (entry_place entries e / 2) 0 ∙ ap (λ i. get_or work i 0) (sym d.places_are)

  module _ {k : ℕ} (few : k < size) where
    abbrev root_place : ℕ
    root_place = get_or work places 0

    abbrev here_place : ℕ
    here_place = get_or work (places + k) 0

    word : get_or (drop (entry_place entries e) subject) (2 * k) 0 ≡ get_or part (2 * k) 0
    word =
        sym (get_or-take (2 * size) (drop (entry_place entries e) subject) (2 * k) 0 (omega arith))
        ∙ ap (λ (l : List ℕ). get_or l (2 * k) 0) (sym d.words)

    word₂ : get_or (drop (entry_place entries e) subject) (2 * k + 1) 0 ≡ get_or part (2 * k + 1) 0
    word₂ =
        sym (get_or-take (2 * size) (drop (entry_place entries e) subject) (2 * k + 1) 0 (omega arith))
        ∙ ap (λ (l : List ℕ). get_or l (2 * k + 1) 0) (sym d.words)

    place_read : get_or (drop (entry_place entries e / 2) (drop 4096 work)) k 0 ≡ here_place
    place_read =
        let p = d.places_are in
        get_or-drop (entry_place entries e / 2) (drop 4096 work) k 0 ∙ get_or-drop 4096 work (entry_place entries e / 2 + k) 0 ∙ ap (λ i. get_or work i 0) (omega arith)

    pub node_within : (2 * k + 1 < length part) × (places + k < 8192)
    node_within = let n = parted_length in let p = parted_places in (omega arith, omega arith)

    pub place_below : Below root_place here_place
    place_below =
        let n = entered sc e d.there in
        let i = n.shallow in
        let j = n.fewer in
        below_so (entry_at subject entries e) (drop (entry_place entries e / 2) (drop 4096 work)) n.later_places root_place n.level n.above k here_place n.placed_so
        (sym root_read ∙ n.root) place_read (omega arith) few

    -- no variable of the entry has a body deeper than the whole
    node_shallow : (level D : ℕ) (ks : List ℕ) (ps : Tree many) → level + depth_of (entry_at subject entries) (Pushed e D ks ps) ≤ 64
        → level + cond (is_free (get_or part (2 * k) 0) (inside_of root_place here_place))
        (or_one (assoc (pairlists ks (depth_of (entry_at subject entries) ps)) (get_or part (2 * k) 0 - inside_of root_place here_place))) 1 ≤ 64
    node_shallow level D ks ps h =
        let f : ℕ → Option ℕ = assoc (pairlists ks (depth_of (entry_at subject entries) ps)) in
        let g : ℕ → ℕ → ℕ → ℕ = node_depth f (get_or (drop 4096 work) (entry_place entries e / 2) 0) in
        let ws : List ℕ = drop (entry_place entries e) subject in
        let hs : List ℕ = drop (entry_place entries e / 2) (drop 4096 work) in
        let i = total_greatest g size k ws hs long_words long_places few in
        let j = spread_depth_lem (entered sc e d.there) f in
        let n : g (get_or ws (2 * k) 0) (get_or ws (2 * k + 1) 0) (get_or hs k 0) ≡ node_depth f root_place (get_or part (2 * k) 0) 0 here_place = rw (root_read, word, place_read) in
        omega (arith, h, i, j, n)

    module _ {words l level offset : ℕ} {nst : List ℕ} {z : ℕ} where
      pub part_split : Splits (PartAt code subject entries work words l level offset nst e z (suc k)) (PartAt code subject entries work words l level offset nst e z k)
          (NodeAt code subject entries work words l level offset nst e z (get_or part (2 * k) 0) (get_or part (2 * k + 1) 0) (inside_of root_place here_place))
      part_split = record {
        parts = λ ws p.
            let g : ℕ → ℕ → ℕ → List ℕ =
            node_words (assoc (pairlists p.ks (words_of (entry_at subject entries) p.bodies))) p.D offset nst (get_or (drop 4096 work) (entry_place entries e / 2) 0)
            in
            let n = long_words in
            let m = long_places in (
              _,
              _,
              p.these ∙ total_more ◌++◌ [] g append_assoc (λ v. refl) append-nil k _ _ (omega arith) (omega arith),
              record { D = p.D; ks = p.ks; bodies = p.bodies; standing = p.standing; shallow = p.shallow; these = refl },
              record {
                D = p.D;
                ks = p.ks;
                bodies = p.bodies;
                standing = p.standing;
                shallow = node_shallow level p.D p.ks p.bodies p.shallow;
                these = ap₂ (λ w c. g w c (get_or (drop (entry_place entries e / 2) (drop 4096 work)) k 0)) word word₂ ∙ rw (root_read, place_read);
              },
            );
      }

      pub part_met : {ws : List ℕ} (j : ℕ) → PartAt code subject entries work words l level offset nst e z j ws → is_free (get_or part (2 * k) 0) (inside_of root_place here_place) ≡ true
          → Met code work z (get_or part (2 * k) 0) (inside_of root_place here_place)
      part_met j p free = record {
        free = free;
        shallow = place_below.1;
        seen =
            let s = p.standing in
            let g : ℕ → ℕ → ℕ → Bool =
            node_seen (λ y. seen_at work (key_place code (z + 4) (count p.bodies) y)) (get_or (drop 4096 work) (entry_place entries e / 2) 0)
            in
            let h : g (get_or part (2 * k) 0) (get_or part (2 * k + 1) 0) here_place ≡ true =
            ap₂ (λ w c. g w c here_place) (sym word) (sym word₂) ∙ ap (λ x. g (get_or (drop (entry_place entries e) subject) (2 * k) 0) (get_or (drop (entry_place entries e) subject) (2 * k + 1) 0) x) (sym place_read)
            ∙ total_each g size k _ _ long_words long_places few s.stands.3
            in
            rw s.stands.2.keys (rw (root_read, free) at h);
      }

module _ {code subject entries work : List ℕ} {words l level offset : ℕ} {nst : List ℕ} {e z w c n : ℕ} (ws : List ℕ) where
  pub node_free : is_free w n ≡ true → NodeAt code subject entries work words l level offset nst e z w c n ws → FreeAt code subject entries work words l level offset nst z w n ws
  node_free f p = record { e = e; D = p.D; ks = p.ks; bodies = p.bodies; standing = p.standing; shallow = rw f at p.shallow; these = p.these ∙ rw f }

  pub node_kept : is_free w n ≡ false → NodeAt code subject entries work words l level offset nst e z w c n ws → ws ≡ w ∷ c ∷ []
  node_kept f p = p.these ∙ rw f
