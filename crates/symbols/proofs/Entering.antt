-- Entering the metavariables of a left side's subterm, in the code's form: at an abstraction's node or a metavariable's, and in a walk.
-- There what the table will be at the end is what the terms still owed make of the rows that are there, and the words of the code are those counted and
-- those of the terms still owed. One law for each way through the loop.
use mathlib.Core.Path.{◌≡◌, refl, sym, ap, ◌∙◌}
use Prim.Native.Nat.{ℕ, zero, suc, ◌+◌, ◌-◌, ◌*◌, ◌/◌, ◌≤◌, ◌<◌}
use native.Mathlib.Numerals.{add-one}
use native.Mathlib.Omega.{arith}
use mathlib.Core.Bool.{Bool, true, false, cond}
use mathlib.Core.Option as Math
use mathlib.Core.Option.{none, some}
use Rattle.std.specs.Prelude.{Option, Some, None}
use mathlib.Core.List.{List, [], ◌∷◌}
use lib.Dec.{leb, eqb}
use lib.ListN.{length, drop, get_or, length-drop}
use lib.Seq.{drop-drop}
use borrow.Author.Tests.{le-leb, lt-leb, leb-true, leb-false, eqb-true, eqb-false}
use Rattle.std.proofs.lemmas.Option.{same_Some}
use Rattle.documents.specs.Limits.{metavariable_limit}
use Rattle.documents.specs.Terms.{Var, Sym, Meta, Abst, Nil, Cons, Term, Terms, len}
use Rattle.documents.specs.Tables.{nodes}
use Rattle.documents.specs.Rules.{are_vars}
use Rattle.documents.specs.Translation.{Row, row, Located, lookup, unvar, enter, update}
use Rattle.documents.proofs.Lists.{never}
use Rattle.kahrs.proofs.Simple.{vars, len_vars, unvar_vars, update_arguments, Simple}
use Rattle.compiled.specs.Length.{occurrence_words, left_words}
use Rattle.compiled.proofs.Unlisted.{distinct_few}
use Rattle.compiled.proofs.Rows.{length_update}
use Rattle.compiled.proofs.WordCount.{left_short}
use Rattle.tables.specs.Parts.{terms, front, Begins, word_count}
use Rattle.tables.proofs.Parts.{join, Step, step, passed, front_term, words_fit, begins_less}
use Rattle.tables.specs.declared.walk.Node.{Node}
use Rattle.tables.specs.declared.walk.Nodes.{Nodes}
use Rattle.tables.specs.Nodes.{Stands, starts, part_at, node_gives, goes_past}
use Rattle.tables.proofs.Nodes.{word_there, part_there, whole_on, owed_on, arguments_pass, whole_past, at_past, owed_past}
use Rattle.tables.proofs.Walks.{at_abstraction, Walk, ended, Walking, walking_from, walking_on, walking_term, walking_ended}
use Rattle.tables.proofs.Fronts.{root, arguments_begin, argument_count, front_metavariable, front_abstraction}
use Rattle.symbols.specs.declared.Entered.{Entered}
use Rattle.symbols.specs.Rows.{rows_in, found_in}
use Rattle.symbols.specs.declared.table.SymbolTable.{SymbolTable}
use Rattle.symbols.specs.Table.{rows_of}
use Rattle.symbols.specs.Entries.{Enterable, some_entered, entered, Enters, behind_node, is_found}
use Rattle.symbols.proofs.Stored.{rows_few}
use Rattle.symbols.proofs.Located.{is_nothing, is_found_lem}

-- ---- What an answer says

same_entered : (read more r m : ℕ) → some_entered read more ≡ some_entered r m → (read ≡ r) × (more ≡ m)
same_entered read more r m e =
    let s = same_Some (record { read = read; words = more }) (record { read = r; words = m }) e in
    (ap (λ (x : Entered). x.read) s, ap (λ (x : Entered). x.words) s)

module _ (n : ℕ) (t : Term) (rows : List Row) where
  pub entered_words : (read more : ℕ) → some_entered read more ≡ entered n t rows
      → (length (update n t rows) ≤ metavariable_limit) × (read ≡ word_count t) × (more ≡ left_words n t rows)
  unfolding entered
  entered_words read more e = go (leb (length (update n t rows)) metavariable_limit) refl e
    where
      go : (q : Bool) → leb (length (update n t rows)) metavariable_limit ≡ q
          → some_entered read more ≡ cond q (some_entered (word_count t) (left_words n t rows)) None
          → (length (update n t rows) ≤ metavariable_limit) × (read ≡ word_count t) × (more ≡ left_words n t rows)
      go true q e =
          let s = same_entered read more (word_count t) (left_words n t rows) e in
          (leb-true (length (update n t rows)) metavariable_limit q, s.0, s.1)
      go false q e = never (cc)

  pub entered_full : None ≡ entered n t rows → metavariable_limit < length (update n t rows)
  unfolding entered
  entered_full e = go (leb (length (update n t rows)) metavariable_limit) refl e
    where
      go : (q : Bool) → leb (length (update n t rows)) metavariable_limit ≡ q
          → None ≡ cond q (some_entered (word_count t) (left_words n t rows)) None → metavariable_limit < length (update n t rows)
      go true q e = never (cc)
      go false q e = leb-false (length (update n t rows)) metavariable_limit q

  is_full : (table : SymbolTable) → metavariable_limit < length (update n t rows) → Enters n t rows table None
  unfolding entered
  is_full table h = record {
    answer = rw (lt-leb (length (update n t rows)) metavariable_limit h);
    entries = λ k. absurd (omega arith);
  }

  is_entered : (table : SymbolTable) (read more : ℕ) → rows_of table ≡ update n t rows → read ≡ word_count t → more ≡ left_words n t rows
      → Enters n t rows table (some_entered read more)
  unfolding entered
  is_entered table read more e p q =
      let k = ap (λ (rs : List Row). length rs) e in
      let fit : length (update n t rows) ≤ metavariable_limit = omega (arith, rows_few table) in
      record { answer = rw (le-leb (length (update n t rows)) metavariable_limit fit, p, q); entries = λ h. e }

-- ---- Terms before others

pub simple_join : (n : ℕ) (ts us : Terms) → Simple n ts → Simple n us → Simple n (join ts us)
simple_join n Nil us p q = q
simple_join n (Cons t ts) us p q = (p.0, simple_join n ts us p.1 q)

update_join : (n : ℕ) (ts us : Terms) (rows : List Row) → update n (join ts us) rows ≡ update n us (update n ts rows)
update_join n Nil us rows = refl
update_join n (Cons t ts) us rows = update_join n ts us (update n t rows)

words_join : (n : ℕ) (ts us : Terms) (rows : List Row) → left_words n (join ts us) rows ≡ left_words n ts rows + left_words n us (update n ts rows)
words_join n Nil us rows = omega arith
words_join n (Cons t ts) us rows = let h = words_join n ts us (update n t rows) in omega arith

-- ---- A variable or a symbol

-- terms us stand behind the words of a node that makes no row
record Behind (n : ℕ) (ts us : Terms) : Type 0 where
  simple : Simple n us
  entries : (rows : List Row) → update n ts rows ≡ update n us rows
  counts : (rows : List Row) → left_words n ts rows ≡ 3 + left_words n us rows

behind_variable : (n x : ℕ) (us : Terms) → Simple n (Cons (Var x) us) → Behind n (Cons (Var x) us) us
behind_variable n x us h = record { simple = h.1; entries = λ rows. refl; counts = λ rows. refl }

behind_symbol : (n s : ℕ) (ts us : Terms) → Simple n (Cons (Sym s ts) us) → Behind n (Cons (Sym s ts) us) (join ts us)
behind_symbol n s ts us h = record {
  simple = simple_join n ts us h.0 h.1;
  entries = λ rows. sym (update_join n ts us rows);
  counts = λ rows. let e = words_join n ts us rows in omega arith;
}

plain_step : {k s c w : ℕ} {ts us : Terms} (n : ℕ) → Step k s c ts us → w / 65536 ≡ k → w < 131072 → Simple n ts → Behind n ts us
plain_step {k = zero} {s = s} n p e h q = rw (p.node, p.inside, p.shape) (behind_variable n s p.later (rw p.node at q))
plain_step {k = suc zero} {s = s} n p e h q = rw (p.node, p.inside) (behind_symbol n s p.arguments p.later (rw p.node at q))
plain_step {k = suc (suc k)} n p e h q = absurd (omega arith)

-- ---- A metavariable

pub nodes_vars : (l : List ℕ) → nodes (vars l) ≡ length l
nodes_vars [] = refl
nodes_vars (x ∷ l) = let h = nodes_vars l in omega arith

pub are_vars_vars : (l : List ℕ) → are_vars (vars l) ≡ true
are_vars_vars [] = refl
are_vars_vars (x ∷ l) = are_vars_vars l

-- a part that begins with a metavariable of a simple term
record Met (n : ℕ) (part : List ℕ) : Type 0 where
  list : List ℕ
  arguments : terms (get_or part 1 0) (drop 2 part) ≡ vars list
  count : length list ≡ get_or part 1 0
  few : get_or part 1 0 ≤ n
  term : front part ≡ Meta (get_or part 0 0 - 131072) (vars list)
  word_count_lem : 2 + 2 * get_or part 1 0 ≡ word_count (front part)

met_at : (n : ℕ) (part : List ℕ) → Begins 1 part → 131072 ≤ get_or part 0 0 → get_or part 0 0 < 196608 → Simple n (front part) → Met n part
met_at n part b lo hi s =
    let t = front_metavariable b lo hi in
    let (l, e, d, u) = rw t at s in
    let c : length l ≡ get_or part 1 0 = sym (len_vars l) ∙ ap len (sym e) ∙ argument_count b in
    let f : front part ≡ Meta (get_or part 0 0 - 131072) (vars l) = cc in
    record {
      list = l;
      arguments = e;
      count = c;
      few = let k = distinct_few n l d u in omega arith;
      term = f;
      word_count_lem = let k : nodes (front part) ≡ suc (nodes (vars l)) = ap (λ (x : Term). nodes x) f in let v = nodes_vars l in omega arith;
    }

-- what it makes of rows
meta_entries : (n z c : ℕ) (l : List ℕ) (rows : List Row) → length l ≡ c → update n (Meta z (vars l)) rows ≡ enter (lookup z c rows) (row z c n l) rows
meta_entries n z c l rows e = rw (update_arguments n (vars l) l refl, len_vars l, unvar_vars l, e)

-- ---- The subterm that a part begins with, and that of a node

-- its code has at most 67 words a node
pub words_few : {part : List ℕ} {under : ℕ} → Enterable part under → {rows : List Row} {left : SymbolTable} {r : Option Entered} {read more : ℕ}
    → Enters under (front part) rows left r → r ≡ some_entered read more → more ≤ 17152
words_few {part} {under} g {rows} {read = read} {more} e f =
    let (fit, q, m) = entered_words under (front part) rows read more (sym f ∙ e.answer) in
    let w = words_fit 1 part g.begins in
    let n : nodes (terms 1 part) ≡ nodes (front part) + 0 = ap (λ (ts : Terms). nodes ts) (front_term part g.begins) in
    let k = left_short under (front part) rows g.low g.simple in
    let s = g.short in
    omega arith

module _ (n : Node) {under : ℕ} (g : Enterable (part_at n) under) where
  -- an abstraction, and its body
  module _ (v : n.word ≡ 196608) where
    abbrev body : Term
    body = front n.behind.now

    is_abstraction : front (part_at n) ≡ Abst body
    is_abstraction = front_abstraction g.begins v

    simple_abstraction : Simple under (Abst body)
    simple_abstraction = rw is_abstraction at g.simple

    pub body_enterable : Enterable n.behind.now (under + 1)
    body_enterable = record {
      begins = (at_abstraction (part_at n) 0 1 g.begins (omega arith) v).body;
      simple = rw (add-one under) simple_abstraction.1;
      low = let k = simple_abstraction.0 in omega arith;
      short = let s = g.short in omega arith;
    }

    module _ {rows : List Row} {left : SymbolTable} {r : Option Entered} (e : Enters (under + 1) body rows left r) where
      pub body_full : r ≡ None → Enters under (front (part_at n)) rows left None
      body_full f =
          let k = entered_full (under + 1) body rows (sym f ∙ e.answer) in
          rw is_abstraction (is_full under (Abst body) rows left (rw (add-one under) at k))

      pub body_entered : {read more : ℕ} → r ≡ some_entered read more → Enters under (front (part_at n)) rows left (some_entered (2 + read) (1 + more))
      body_entered {read} {more} f =
          let (fit, q, m) = entered_words (under + 1) body rows read more (sym f ∙ e.answer) in
          rw is_abstraction
          (is_entered under (Abst body) rows left (2 + read) (1 + more) (rw (add-one under) at (e.entries fit)) (omega arith) (ap (λ (k : ℕ). 1 + k) (rw (add-one under) at m)))

  -- a metavariable
  module _ (lo : 131072 ≤ n.word) (hi : n.word < 196608) where
    abbrev name : ℕ
    name = n.word - 131072

    abbrev count : ℕ
    count = n.count

    met : Met under (part_at n)
    met = met_at under (part_at n) g.begins lo hi g.simple

    pub arguments_narrow : count ≤ 8
    arguments_narrow = (root g.begins).narrow

    pub arguments_few : count ≤ under
    arguments_few = met.few

    pub arguments_variables : Begins count n.behind.now × (are_vars (terms count n.behind.now) ≡ true)
    arguments_variables = (arguments_begin g.begins, rw met.arguments (are_vars_vars met.list))

    pub arguments_count : length (unvar (terms count n.behind.now)) ≡ count
    arguments_count = rw (met.arguments, unvar_vars met.list) met.count

    met_entries : (rows : List Row) (o : Math.Option Located) → lookup name count rows ≡ o → enter o (row name count under met.list) rows ≡ update under (front (part_at n)) rows
    met_entries rows o q = rw (← q, met.term) (sym (meta_entries under name count met.list rows met.count))

    met_counts : (rows : List Row) (o : Math.Option Located) → lookup name count rows ≡ o → occurrence_words under count o ≡ left_words under (front (part_at n)) rows
    met_counts rows o q = rw (← q, met.term, len_vars met.list, met.count)

    module _ (table : SymbolTable) (words : List ℕ) (its : rows_in words ≡ rows_of table) where
      abbrev here : List Row
      here = rows_of table

      -- one that has a row
      pub later_entered : (l : ℕ) → Some l ≡ found_in (lookup name count (rows_in words))
          → Enters under (front (part_at n)) here table (some_entered (2 + 2 * count) (5 + 2 * count))
      later_entered l a = go (lookup name count here) refl (is_found_lem (lookup name count here) l (rw its at a))
        where
          go : (o : Math.Option Located) → lookup name count here ≡ o → is_found o ≡ true
              → Enters under (front (part_at n)) here table (some_entered (2 + 2 * count) (5 + 2 * count))
          go none q f = never (cc)
          go (some x) q f = is_entered under (front (part_at n)) here table (2 + 2 * count) (5 + 2 * count) (met_entries here (some x) q) met.word_count_lem (met_counts here (some x) q)

      -- one that has none
      module _ (a : None ≡ found_in (lookup name count (rows_in words))) where
        missing : lookup name count here ≡ none
        missing = is_nothing (lookup name count here) (rw its at a)

        -- where there is no room for it
        pub first_full : true ≡ eqb (length here) 16 → Enters under (front (part_at n)) here table None
        first_full z =
            let m : length here ≡ 16 = eqb-true (length here) 16 (sym z) in
            let k : suc (length here) ≡ length (update under (front (part_at n)) here) = ap (λ (rs : List Row). length rs) (met_entries here none missing) in
            is_full under (front (part_at n)) here table (omega arith)

        -- where there is
        pub first_entered : (left : SymbolTable) → rows_of left ≡ row name count under (unvar (terms count n.behind.now)) ∷ here
            → Enters under (front (part_at n)) here left (some_entered (2 + 2 * count) (4 + (under - count)))
        first_entered left w =
            let u : unvar (terms count n.behind.now) ≡ met.list = rw met.arguments (unvar_vars met.list) in
            let o : rows_of left ≡ row name count under met.list ∷ here = rw u at w in
            is_entered under (front (part_at n)) here left (2 + 2 * count) (4 + (under - count)) (o ∙ met_entries here none missing) met.word_count_lem (met_counts here none missing)

-- there is room where it is not full
pub room : (table : SymbolTable) → false ≡ eqb (length (rows_of table)) 16 → length (rows_of table) < 16
room table z =
    let n = rows_few table in
    let o : length (rows_of table) ≡ 16 → ⊥ = eqb-false (length (rows_of table)) 16 (sym z) in
    omega arith

-- ---- The walk

pub record Entering (part : List ℕ) (under : ℕ) (rows : List Row) (table : SymbolTable) (owed at words : ℕ) : Type 0 where
  pub walk : Walking part owed at
  pub simple : Simple under (terms owed (drop at part))
  pub low : under < 64
  pub short : length part ≤ 512
  pub entries : update under (terms owed (drop at part)) (rows_of table) ≡ update under (front part) rows
  pub counts : words + left_words under (terms owed (drop at part)) (rows_of table) ≡ left_words under (front part) rows
  -- 67 words a node
  pub few : left_words under (front part) rows ≤ 17152

pub entering_from : {part : List ℕ} {under : ℕ} (table : SymbolTable) → Enterable part under
    → Entering part under (rows_of table) table 1 0 0
entering_from {part} {under} table g =
    let e = front_term part g.begins in
    let k = left_short under (front part) (rows_of table) g.low g.simple in
    let f = walking_from g.begins in
    let s = g.short in
    record {
      walk = f;
      simple = rw e (g.simple, tt);
      low = g.low;
      short = s;
      entries = rw e;
      counts = rw e (omega arith);
      few = let r = f.room in omega arith;
    }

pub entering_ended : {part : List ℕ} {under : ℕ} {rows : List Row} {table : SymbolTable} {owed at words : ℕ} → Entering part under rows table owed at words → owed ≤ 0
    → Enters under (front part) rows table (some_entered at words)
entering_ended {part} {under} {rows} {table} {owed} {at} {words} e h =
    let n = ended e.walk.walk h in
    let u = rw n at e.entries in
    let c : words + 0 ≡ left_words under (front part) rows = rw n at e.counts in
    is_entered under (front part) rows table at words u (walking_ended e.walk h) (omega arith)

module _ {part : List ℕ} {under : ℕ} {rows : List Row} {table : SymbolTable} {owed at words : ℕ}
    (e : Entering part under rows table owed at words) (h : 0 < owed) where
  -- past a variable's words or a symbol's
  pub entering_plain : get_or part at 0 < 131072 → Entering part under rows table (owed - 1 + get_or part (at + 1) 0) (at + 2) (words + 3)
  entering_plain v =
      let b = plain_step under (step part at owed e.walk.walk.begins h) refl v e.simple in
      let c = e.counts in
      let k = b.counts (rows_of table) in
      record {
        walk = walking_on e.walk h;
        simple = b.simple;
        low = e.low;
        short = e.short;
        entries = sym (b.entries (rows_of table)) ∙ e.entries;
        counts = omega arith;
        few = e.few;
      }

  -- past a whole term
  abbrev behind : Terms
  behind = terms (owed - 1) (drop (at + word_count (front (drop at part))) part)

  terms_are : terms owed (drop at part) ≡ Cons (front (drop at part)) behind
  terms_are =
      let d = drop-drop (word_count (front (drop at part))) at part in
      rw d at (passed owed (drop at part) e.walk.walk.begins h).terms_are

  simple_term : Simple under (Cons (front (drop at part)) behind)
  simple_term = rw terms_are at e.simple

  pub term_enterable : Enterable (drop at part) under
  term_enterable = record {
    begins = begins_less 1 (omega arith) e.walk.walk.begins;
    simple = simple_term.0;
    low = e.low;
    short = let s = e.short in rw length-drop (omega arith);
  }

  abbrev after : List Row
  after = update under (front (drop at part)) (rows_of table)

  after_entries : update under behind after ≡ update under (front part) rows
  after_entries = rw terms_are at e.entries

  after_counts : words + (left_words under (front (drop at part)) (rows_of table) + left_words under behind after) ≡ left_words under (front part) rows
  after_counts = rw terms_are at e.counts

  module _ {left : SymbolTable} {r : Option Entered} (t : Enters under (front (drop at part)) (rows_of table) left r) where
    pub term_full : r ≡ None → Enters under (front part) rows left None
    term_full f =
        let k = entered_full under (front (drop at part)) (rows_of table) (sym f ∙ t.answer) in
        let g = length_update under behind after in
        let a : length (update under behind after) ≡ length (update under (front part) rows) = ap (λ (rs : List Row). length rs) after_entries in
        is_full under (front part) rows left (omega arith)

    pub entering_term : {read more : ℕ} → r ≡ some_entered read more → Entering part under rows left (owed - 1) (at + read) (words + more)
    entering_term {read} {more} f =
        let (fit, w, m) = entered_words under (front (drop at part)) (rows_of table) read more (sym f ∙ t.answer) in
        let o : rows_of left ≡ after = t.entries fit in
        let c = after_counts in
        rw w (record {
          walk = walking_term e.walk h;
          simple = simple_term.1;
          low = e.low;
          short = e.short;
          entries = rw o after_entries;
          counts = rw (o, m) (omega arith);
          few = e.few;
        })

-- ---- The walk, node by node

-- where it stands in the part, and so many words of code counted
pub record AtNode (part : List ℕ) (under : ℕ) (rows : List Row) (table : SymbolTable) (s : Nodes) (words : ℕ) : Type 0 where
  pub whole : s.part.now ≡ part
  pub entering : Entering part under rows table s.owed s.at words

pub first_node : {part : List ℕ} {under : ℕ} (table : SymbolTable) (s : Nodes) → Enterable part under → starts part s → AtNode part under (rows_of table) table s 0
first_node table s g h = record { whole = h.0; entering = rw (h.1, h.2) (entering_from table g) }

pub no_node : {part : List ℕ} {under : ℕ} {rows : List Row} {table : SymbolTable} {words : ℕ} (s t : Nodes) → AtNode part under rows table s words → node_gives s None t
    → Enters under (front part) rows table (some_entered t.at words)
no_node s t e g = rw g.1.1 (entering_ended e.entering (omega arith))

-- it goes on from there
pub node_stands : {part : List ℕ} {under : ℕ} {rows : List Row} {table : SymbolTable} {words : ℕ} (s : Nodes) → AtNode part under rows table s words → Stands s
node_stands s e = let w = e.entering.walk.walk in rw e.whole (w.begins, let r = w.within in omega arith)

module _ {part : List ℕ} {under : ℕ} {rows : List Row} {table : SymbolTable} {words : ℕ} (s t : Nodes) (n : Node)
    (e : AtNode part under rows table s words) (g : node_gives s (Some n) t) where
  abbrev stands : Walk part s.at s.owed
  stands = e.entering.walk.walk

  pub plain_node : n.word < 131072 → AtNode part under rows table t (words + 3)
  plain_node v = record {
    whole = whole_on s t n e.whole stands g;
    entering = rw (owed_on s t n e.whole stands g, g.1.4) (entering_plain e.entering g.1.0 (rw (word_there s t n e.whole stands g) at v));
  }

  -- its arguments are shorter than the part by its own words
  pub node_falls : length n.behind.now + 2 ≤ length part
  node_falls =
      let w = stands.within in
      let h = g.1.0 in
      let d : length n.behind.now ≡ length part - (s.at + 2) = rw (g.1.3, e.whole) (length-drop (s.at + 2) part) in
      omega arith

  pub node_enterable : Enterable (part_at n) under
  node_enterable = rw (part_there s t n e.whole stands g) (term_enterable e.entering g.1.0)

  module _ {left : SymbolTable} (r : Option Entered) (h : Enters under (front (part_at n)) (rows_of table) left (behind_node r)) where
    there : Enters under (front (drop s.at part)) (rows_of table) left (behind_node r)
    there = rw (part_there s t n e.whole stands g) at h

    pub node_full : r ≡ None → Enters under (front part) rows left None
    node_full f = term_full e.entering g.1.0 there (ap behind_node f)

    module _ (x : Entered) (f : r ≡ Some x) where
      past : Entering part under rows left (s.owed - 1) (s.at + (2 + x.read)) (words + x.words)
      past = entering_term e.entering g.1.0 there (ap behind_node f)

      pub node_passes : (n.count ≤ t.owed) × (t.at + x.read ≤ length t.part.now)
      node_passes = arguments_pass s t n e.whole stands g x.read (let w = past.walk.walk.within in omega arith)

      pub node_entered : (u : Nodes) → goes_past t n.count x.read u → AtNode part under rows left u (words + x.words)
      node_entered u p = record {
        whole = whole_past s t n e.whole stands g x.read u p;
        entering = rw (owed_past s t n e.whole stands g x.read u p, at_past s t n e.whole stands g x.read u p) past;
      }
