-- The walk of an entry as its function has it: levels and abstractions are worked out from the words of the working table.
use mathlib.Core.Path.{◌≡◌, refl, sym, ap, ap₂, ◌∙◌}
use Prim.Native.Nat.{ℕ, ◌+◌, ◌-◌, ◌*◌, ◌/◌, ◌%◌, ◌≤◌, ◌<◌, max}
use native.Mathlib.Omega.{arith}
use mathlib.Core.Bool.{Bool, true, false}
use mathlib.Core.List.{List}
use lib.ListN.{length, get_or, drop}
use lib.Seq.{get_or-drop}
use Rattle.tables.specs.declared.walk.Node.{Node}
use Rattle.tables.specs.declared.walk.Nodes.{Nodes}
use Rattle.tables.specs.Parts.{Begins}
use Rattle.tables.specs.Nodes.{Stands, starts, node_gives}
use Rattle.tables.proofs.Walks.{walking_on}
use Rattle.links.specs.Links.{capped}
use Rattle.links.specs.Nodewise.{is_free, levels_in, inside_of}
use Rattle.links.specs.Standing.{entry_place}
use Rattle.std.specs.Prelude.{Option, Some, None}
use Rattle.measurer.specs.declared.Span.{Span}
use Rattle.measurer.specs.Measuring.{Kept, push_end, Spreading, Spreads, Free, Frees}
use Rattle.measurer.proofs.Kept.{kept_then}
use Rattle.measurer.proofs.Answering.{frees_of, frees_large}
use Rattle.measurer.proofs.Spreading.{Spanned, span_from, node_place, place_bounds, place_room, span_on, span_free, span_large, span_larger, span_met, all, en}

-- where the walk of its nodes stands
pub record At (part : List ℕ) (nodes : ℕ) (s : Nodes) : Type 0 where
  pub same : s.part.now ≡ part
  pub place : s.at ≡ 2 * nodes

pub stands_first : (part : List ℕ) (s : Nodes) → Begins 1 part → starts part s → Stands s
stands_first part s h b = rw (b.0, b.1, b.2) (h, omega arith)

pub at_first : {part : List ℕ} {s : Nodes} → starts part s → At part 0 s
at_first b = record { same = b.0; place = b.1 }

module _ {part : List ℕ} {nodes : ℕ} {s : Nodes} (t : Nodes) (n : Node) (w : At part nodes s) (g : node_gives s (Some n) t) where
  pub word_is : n.word ≡ get_or part (2 * nodes) 0
  word_is = g.1.1 ∙ ap₂ (λ (l : List ℕ) (i : ℕ). get_or l i 0) w.same w.place

  pub owed_is : t.owed ≡ s.owed - 1 + get_or part (2 * nodes + 1) 0
  owed_is = g.1.5 ∙ ap (λ (k : ℕ). s.owed - 1 + k) (g.1.2 ∙ ap₂ (λ (l : List ℕ) (i : ℕ). get_or l (i + 1) 0) w.same w.place)

  pub at_next : At part (nodes + 1) t
  at_next = record { same = rw g.0 w.same; place = let a = g.1.4 in let b = w.place in omega arith }

module _ {code : List ℕ} {push c D : ℕ} {part : List ℕ} {places : ℕ} {subject entries work₀ : List ℕ} {most : ℕ}
    (sp : Spreading code push c D part places subject entries work₀ most) where
  abbrev Spans : List ℕ → ℕ → ℕ → ℕ → ℕ → ℕ → ℕ → Type 0
  Spans = Spanned code push c D part places subject entries work₀ most

  abbrev p : ℕ
  p = entry_place entries (get_or code (push + 1) 0)

  abbrev r : ℕ
  r = get_or (drop 4096 work₀) (p / 2) 0

  pub root_room : places < length work₀
  root_room = let k = place_room sp (span_from sp) (omega arith) in omega arith

  root_is : get_or work₀ places 0 ≡ r
  root_is = ap (λ (k : ℕ). get_or work₀ k 0) sp.places_are ∙ sym (get_or-drop 4096 work₀ (p / 2) 0)

  module _ {work : List ℕ} {owed node more highest deepest far root : ℕ} (s : Spans work owed node more highest deepest far) (er : root ≡ get_or work₀ places 0) (lo : 0 < owed) where
    abbrev h : ℕ
    h = get_or (drop (p / 2) (drop 4096 work₀)) node 0

    abbrev here : ℕ
    here = get_or work (places + node) 0 - root

    here_is : here ≡ h - r
    here_is = ap₂ (λ (x y : ℕ). x - y) (node_place sp s lo) (er ∙ root_is)

    pub inside_is : here % 256 ≡ inside_of r h
    inside_is = ap (λ (x : ℕ). x % 256) here_is

    pub levels_are : here / 256 ≡ levels_in r h
    levels_are = ap (λ (x : ℕ). x / 256) here_is

    pub not_below : root ≤ get_or work (places + node) 0
    not_below = let a = node_place sp s lo in let b = (place_bounds sp s lo).low in let e = er ∙ root_is in omega arith

    pub few_levels : here / 256 ≤ 63
    few_levels = rw levels_are (place_bounds sp s lo).levels

    pub next_words : 2 * node + 2 + 2 * (owed - 1 + get_or part (2 * node + 1) 0) ≤ length part
    next_words = (walking_on s.walk lo).walk.within

    module _ {q : Bool} (test : q ≡ is_free (get_or part (2 * node) 0) (here % 256)) where
      is_so : {b : Bool} → q ≡ b → is_free (get_or part (2 * node) 0) (inside_of r h) ≡ b
      is_so e = ap (is_free (get_or part (2 * node) 0)) (sym inside_is) ∙ sym test ∙ e

      pub pass_on : {k' : ℕ} → q ≡ false → k' ≡ max highest here → Spans work (owed - 1 + get_or part (2 * node + 1) 0) (node + 1) more k' deepest far
      pass_on e ek = span_on sp s lo (is_so e) (ek ∙ ap (max highest) here_is)

      module _ (yes : q ≡ true) where
        pub free_here : Free code push c D (get_or part (2 * node) 0) (here % 256) subject entries work most
        free_here = rw inside_is (span_free sp s lo (is_so yes))

        module _ {work₁ : List ℕ} {o : Option Span} (fs : Frees code push c D (get_or part (2 * node) 0) (here % 256) subject entries work work₁ most o) where
          same : Frees code push c D (get_or part (2 * node) 0) (inside_of r h) subject entries work work₁ most o
          same = rw inside_is at fs

          kept_so : Kept (push + 1) (push_end code push c) work₀ work₁
          kept_so = kept_then s.kept fs.kept (omega arith) (omega arith) (omega arith) (omega arith)

          pub large_here : o ≡ None → Spreads code push c D part places subject entries work₀ work₁ most None
          large_here e = record { kept = kept_so; says = span_large sp s lo (is_so yes) (frees_large same e) }

          pub meets_here : {found : Span} → o ≡ Some found → (1 ≤ found.nodes) × (found.nodes ≤ 4096) × (found.depth ≤ 65)
          meets_here {found} e = let m = frees_of same e in (m.some_nodes, m.few_nodes, (let k = m.deep in cap_low _ k))
            where
              cap_low : (x : ℕ) → found.depth ≡ capped x → found.depth ≤ 65
              cap_low x e = omega arith

          pub larger_here : {found : Span} → o ≡ Some found → most < more + (found.nodes - 1) → Spreads code push c D part places subject entries work₀ work₁ most None
          larger_here {found} e l = record { kept = kept_so; says = span_larger sp s lo (is_so yes) found.nodes (frees_of same e).size l }

          pub met_on : {found : Span} {k' d' far' : ℕ} → o ≡ Some found → more + (found.nodes - 1) ≤ most → k' ≡ max highest here → d' ≡ max deepest (here / 256 + found.depth) → far' ≡ max far found.reach
              → Spans work₁ (owed - 1 + get_or part (2 * node + 1) 0) (node + 1) (more + (found.nodes - 1)) k' d' far'
          met_on {found} e l ek ed ef =
              span_met sp s lo (is_so yes) fs.kept (frees_of same e) refl l (ek ∙ ap (max highest) here_is) (ed ∙ ap (λ (x : ℕ). max deepest (x + found.depth)) levels_are) ef

  module _ {work : List ℕ} {owed node more highest deepest far : ℕ} (s : Spans work owed node more highest deepest far) (done : owed ≤ 0) where
    pub end_small : (places - 4096 + node ≤ 4096) × (4096 ≤ places)
    end_small =
        let k = all sp s done in
        let w = (en sp).within in
        let f = sp.scene.few in
        let x = sp.places_are in
        (omega arith, omega arith)
