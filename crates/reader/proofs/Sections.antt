-- A file's sections by their counts, at places of the file and in the code's arithmetic; `size` is the bytes of a count and its words.
use mathlib.Core.Path.{◌≡◌, refl, sym, ap, ◌∙◌}
use mathlib.Core.List.{List, [], ◌∷◌}
use mathlib.Core.Option as Math
use mathlib.Core.Option.{none, some}
use Rattle.std.specs.Prelude.{Option, Some, None, Err, Ok}
use mathlib.Core.Bool.{Bool, true, false, cond}
use Prim.Native.Nat.{ℕ, ◌+◌, ◌*◌, ◌≤◌}
use native.Mathlib.Omega.{arith}
use lib.Dec.{leb, eqb}
use lib.ListN.{length, get_or, drop, length-drop}
use lib.Seq.{drop-drop}
use borrow.Author.Tests.{leb-true, le-leb, eq-eqb, ne_eqb}
use Rattle.documents.specs.declared.Refusal.TheVariants.{BadFile}
use Rattle.documents.specs.Lists.{need}
use Rattle.documents.specs.Numbers.{or_refuse}
use Rattle.documents.specs.Calls.{file_side_words, file_subject_words, Section, section, section_in, sections_in, with_section, File, file, file_in, read_answer, read_call, at_front}
use Rattle.documents.proofs.Lists.{never, needed}
use Rattle.reader.specs.Reader.{word_at, words_from, count_in, counts_of, given}
use Rattle.std.proofs.lemmas.Option.{same_Some}
use Rattle.reader.specs.declared.Counts.{Counts}
use Rattle.reader.proofs.Words.{length_words_from}

-- ---- A section

-- the section that bytes begin with, by its count
abbrev section_of : List ℕ → Option ℕ → Math.Option Section
section_of bs None = none
section_of bs (Some n) =
    need (leb (4 * n) (length (drop 4 bs))) (some (section (words_from bs 4 n) (drop (4 * n) (drop 4 bs))))

section_in_count : (limit room : ℕ) (bs : List ℕ) → section_in limit room bs ≡ section_of bs (count_in limit room bs)
unfolding word_at count_in
section_in_count limit room bs = go (leb 4 (length bs)) (leb (word_at bs 0) limit) (leb (word_at bs 0) room)
  where
    go : (a b c : Bool)
        → need a (need b (need c (section_of bs (Some (word_at bs 0))))) ≡ section_of bs (cond a (cond b (cond c (Some (word_at bs 0)) None) None) None)
    go true true true = refl
    go true true false = refl
    go true false c = refl
    go false b c = refl

count_in_fits : (limit room : ℕ) (bs : List ℕ) (n : ℕ) → count_in limit room bs ≡ Some n → (4 ≤ length bs) × (n ≤ room)
unfolding count_in
count_in_fits limit room bs n e = go (leb 4 (length bs)) (leb (word_at bs 0) limit) (leb (word_at bs 0) room) refl refl e
  where
    go : (a b c : Bool) → leb 4 (length bs) ≡ a → leb (word_at bs 0) room ≡ c
        → cond a (cond b (cond c (Some (word_at bs 0)) None) None) None ≡ Some n → (4 ≤ length bs) × (n ≤ room)
    go true true true p q e =
        let w : word_at bs 0 ≡ n = cc in
        (leb-true 4 (length bs) p, rw w at (leb-true (word_at bs 0) room q))
    go true true false p q e = never (cc)
    go true false c p q e = never (cc)
    go false b c p q e = never (cc)

pub count_there : (limit room at : ℕ) (bs : List ℕ) (n : ℕ) → count_in limit room (drop at bs) ≡ Some n → at + 4 ≤ length bs
count_there limit room at bs n c = omega (arith, simp length-drop at (count_in_fits limit room (drop at bs) n c).0)

section_in_none : (limit room : ℕ) (bs : List ℕ) → count_in limit room bs ≡ None → section_in limit room bs ≡ none
section_in_none limit room bs e = section_in_count limit room bs ∙ ap (section_of bs) e

-- that the section at a place is there, and has n words
pub record Holds (limit room at : ℕ) (bs : List ℕ) (n size : ℕ) : Type 0 where
  pub is : section_in limit room (drop at bs) ≡ some (section (words_from bs (at + 4) n) (drop (at + size) bs))
  pub fits : n ≤ room
  pub whole : at + 4 + 4 * n ≤ length bs

module _ (limit room at : ℕ) (bs : List ℕ) (n size : ℕ) (z : size ≡ 4 + 4 * n) where
  -- the section at a place, with its places in the whole file
  section_at : count_in limit room (drop at bs) ≡ Some n
      → section_in limit room (drop at bs) ≡ need (leb (4 * n) (length (drop (at + 4) bs))) (some (section (words_from bs (at + 4) n) (drop (at + size) bs)))
  section_at c =
      let e : at + 4 + 4 * n ≡ at + size = omega arith in
      section_in_count limit room (drop at bs) ∙ rw (c, drop-drop 4 at bs, drop-drop (4 * n) (at + 4) bs, e)

  section_holds : count_in limit room (drop at bs) ≡ Some n → at + size ≤ length bs → Holds limit room at bs n size
  section_holds c h =
      record {
        is = section_at c ∙ rw (le-leb (4 * n) (length (drop (at + 4) bs)) (simp length-drop (omega arith)));
        fits = (count_in_fits limit room (drop at bs) n c).1;
        whole = omega arith;
      }

  -- with something missing behind a section there is nothing, whether or not the section's own words are there
  section_then_none : {A : Type 0} (f : List ℕ → List ℕ → Math.Option A) → count_in limit room (drop at bs) ≡ Some n
      → (at + size ≤ length bs → f (words_from bs (at + 4) n) (drop (at + size) bs) ≡ none) → with_section (section_in limit room (drop at bs)) f ≡ none
  section_then_none f c e = rw (section_at c) (go (leb (4 * n) (length (drop (at + 4) bs))) refl)
    where
      go : (q : Bool) → leb (4 * n) (length (drop (at + 4) bs)) ≡ q → with_section (need q (some (section (words_from bs (at + 4) n) (drop (at + size) bs)))) f ≡ none
      go true h =
          let count_there = (count_in_fits limit room (drop at bs) n c).0 in
          e (omega (arith, simp length-drop at (leb-true (4 * n) (length (drop (at + 4) bs)) h), simp length-drop at count_there))
      go false h = refl

  -- the other way round: of a section that is there
  section_is : (ws rest : List ℕ) → section_in limit room (drop at bs) ≡ some (section ws rest) → length ws ≡ n
      → Holds limit room at bs n size × ((ws ≡ words_from bs (at + 4) n) × (rest ≡ drop (at + size) bs))
  section_is ws rest e h = go (count_in limit room (drop at bs)) refl (sym (section_in_count limit room (drop at bs)) ∙ e)
    where
      go : (k : Option ℕ) → count_in limit room (drop at bs) ≡ k → section_of (drop at bs) k ≡ some (section ws rest) → Holds limit room at bs n size × ((ws ≡ words_from bs (at + 4) n) × (rest ≡ drop (at + size) bs))
      go None c d = never (cc)
      go (Some m) c d =
          let a = needed (leb (4 * m) (length (drop 4 (drop at bs)))) (some (section (words_from (drop at bs) 4 m) (drop (4 * m) (drop 4 (drop at bs))))) (section ws rest) d in
          let long = leb-true (4 * m) (length (drop 4 (drop at bs))) a.0 in
          let w : ws ≡ words_from (drop at bs) 4 m = cc a.1 in
          let whole : 4 + 4 * m ≤ length (drop at bs) = omega (arith, (count_in_fits limit room (drop at bs) m c).0, simp length-drop at long, length-drop at bs) in
          let q : m ≡ n = sym (length_words_from (drop at bs) 4 m whole) ∙ sym (ap length w) ∙ h in
          let hs = section_holds (c ∙ ap Some q) (omega (arith, simp length-drop at whole)) in
          (hs, (cc hs.is, cc hs.is))

-- ---- A file

file_in_long : (left right subject : ℕ) (bs : List ℕ) → 1 ≤ length bs → file_in left right subject bs ≡ need (eqb (get_or bs 0 0) 1) (sections_in left right subject (drop 1 bs))
unfolding file_in
file_in_long left right subject [] h = absurd (omega arith)
file_in_long left right subject (v ∷ bs) h = refl

need_none : {A : Type 0} (q : Bool) → need {A = A} q none ≡ none
need_none true = refl
need_none false = refl

-- the refusals in the code's order, each with what was found before it; x, y and z are the bytes of the three sections
pub no_left : (left right subject : ℕ) (bs : List ℕ) → count_in file_side_words left (drop 1 bs) ≡ None → file_in left right subject bs ≡ none
unfolding file_in
no_left left right subject [] h = refl
no_left left right subject (v ∷ bs) h = rw (section_in_none file_side_words left bs h) (need_none (eqb v 1))

module _ (left right subject : ℕ) (bs : List ℕ) where
  module _ (l : ℕ) (lc : count_in file_side_words left (drop 1 bs) ≡ Some l) where
    counted : file_in left right subject bs ≡ need (eqb (get_or bs 0 0) 1) (sections_in left right subject (drop 1 bs))
    counted = file_in_long left right subject bs (omega (arith, count_there file_side_words left 1 bs l lc))

    pub no_version : (get_or bs 0 0 ≡ 1 → ⊥) → file_in left right subject bs ≡ none
    no_version h = counted ∙ rw (ne_eqb (get_or bs 0 0) 1 h)

    module _ (version : get_or bs 0 0 ≡ 1) (x : ℕ) (xs : x ≡ 4 + 4 * l) where
      versioned : file_in left right subject bs ≡ sections_in left right subject (drop 1 bs)
      versioned = counted ∙ rw (eq-eqb (get_or bs 0 0) 1 version)

      pub no_right : count_in file_side_words right (drop (1 + x) bs) ≡ None → file_in left right subject bs ≡ none
      no_right h =
          versioned ∙ section_then_none file_side_words left 1 bs l x xs _ lc (λ w. rw (section_in_none file_side_words right (drop (1 + x) bs) h))

      module _ (r : ℕ) (rc : count_in file_side_words right (drop (1 + x) bs) ≡ Some r) (y : ℕ) (ys : y ≡ 4 + 4 * r) where
        pub no_subject : count_in file_subject_words subject (drop (1 + x + y) bs) ≡ None → file_in left right subject bs ≡ none
        no_subject h =
            versioned ∙ section_then_none file_side_words left 1 bs l x xs _ lc (λ w. section_then_none file_side_words right (1 + x) bs r y ys _ rc
            (λ w. rw (section_in_none file_subject_words subject (drop (1 + x + y) bs) h)))

        module _ (s : ℕ) (sc : count_in file_subject_words subject (drop (1 + x + y) bs) ≡ Some s) (z : ℕ) (zs : z ≡ 4 + 4 * s) where
          pub no_end : (length bs ≡ 1 + x + y + z → ⊥) → file_in left right subject bs ≡ none
          no_end h =
              versioned ∙ section_then_none file_side_words left 1 bs l x xs _ lc (λ w. section_then_none file_side_words right (1 + x) bs r y ys _ rc (λ w. section_then_none file_subject_words subject (1 + x + y) bs s z zs _ sc
              (λ w. rw (ne_eqb (length (drop (1 + x + y + z) bs)) 0 (λ e. h (omega (arith, simp length-drop at e)))))))

          pub at_end : length bs ≡ 1 + x + y + z → counts_of (file_in left right subject bs) ≡ Some (record { left = l; right = r; subject = s })
          at_end h =
              let hl = section_holds file_side_words left 1 bs l x xs lc (omega arith) in
              let hr = section_holds file_side_words right (1 + x) bs r y ys rc (omega arith) in
              let hs = section_holds file_subject_words subject (1 + x + y) bs s z zs sc (omega arith) in
              rw (
                versioned,
                hl.is,
                hr.is,
                hs.is,
                eq-eqb (length (drop (1 + x + y + z) bs)) 0 (simp length-drop (omega arith)),
                length_words_from bs 5 l hl.whole,
                length_words_from bs (1 + x + 4) r hr.whole,
                length_words_from bs (1 + x + y + 4) s hs.whole,
              )

sections_is : (left right subject : ℕ) (bs : List ℕ) (f : File) → file_in left right subject bs ≡ some f → sections_in left right subject (drop 1 bs) ≡ some f
unfolding file_in
sections_is left right subject [] f e = never (cc)
sections_is left right subject (v ∷ bs) f e = (needed (eqb v 1) (sections_in left right subject bs) f e).1

with_section_is : {A P : Type 0} (o : Math.Option Section) (f : List ℕ → List ℕ → Math.Option A) (a : A) → with_section o f ≡ some a
    → ((ws rest : List ℕ) → o ≡ some (section ws rest) → f ws rest ≡ some a → P) → P
with_section_is none f a e k = never (cc)
with_section_is (some (section ws rest)) f a e k = k ws rest refl e

-- that a whole file is there, and its tables have l, r and s words; x and y are the bytes of the first two sections
pub record Tables (left right subject : ℕ) (bs : List ℕ) (l r s x y : ℕ) : Type 0 where
  pub is : file_in left right subject bs ≡ some (file (words_from bs 5 l) (words_from bs (1 + x + 4) r) (words_from bs (1 + x + y + 4) s))
  pub left_holds : Holds file_side_words left 1 bs l x
  pub right_holds : Holds file_side_words right (1 + x) bs r y
  pub subject_holds : Holds file_subject_words subject (1 + x + y) bs s (4 + 4 * s)

module _ (left right subject : ℕ) (bs : List ℕ) (l r s x y : ℕ) (xs : x ≡ 4 + 4 * l) (ys : y ≡ 4 + 4 * r) where
  tables_of : (L R S : List ℕ) → file_in left right subject bs ≡ some (file L R S) → length L ≡ l → length R ≡ r → length S ≡ s → Tables left right subject bs l r s x y
  tables_of L R S e p q u =
      with_section_is (section_in file_side_words left (drop 1 bs)) _ (file L R S) (sections_is left right subject bs (file L R S) e) λ L₁ rest₁ e₁ f₁.
      with_section_is (section_in file_side_words right rest₁) _ (file L R S) f₁ λ R₁ rest₂ e₂ f₂.
      with_section_is (section_in file_subject_words subject rest₂) _ (file L R S) f₂ λ S₁ rest₃ e₃ f₃.
      let z = needed (eqb (length rest₃) 0) (some (file L₁ R₁ S₁)) (file L R S) f₃ in
      let (hl, (wl, d₁)) = section_is file_side_words left 1 bs l x xs L₁ rest₁ e₁ (cc z.1) in
      let (hr, (wr, d₂)) = section_is file_side_words right (1 + x) bs r y ys R₁ rest₂ (rw d₁ at e₂) (cc z.1) in
      let (hs, (ws, d₃)) = section_is file_subject_words subject (1 + x + y) bs s (4 + 4 * s) refl S₁ rest₃ (rw d₂ at e₃) (cc z.1) in
      record {
        is = e ∙ sym z.1 ∙ rw (wl, wr, ws);
        left_holds = hl;
        right_holds = hr;
        subject_holds = hs;
      }

  -- a whole file, by its counts
  pub tables : counts_of (file_in left right subject bs) ≡ Some (record { left = l; right = r; subject = s }) → Tables left right subject bs l r s x y
  tables h = go (file_in left right subject bs) refl h
    where
      go : (o : Math.Option File) → file_in left right subject bs ≡ o → counts_of o ≡ Some (record { left = l; right = r; subject = s }) → Tables left right subject bs l r s x y
      go none e h = never (cc)
      go (some (file L R S)) e h =
          let same = same_Some (record { left = length L; right = length R; subject = length S }) (record { left = l; right = r; subject = s }) h in
          tables_of L R S e (ap (λ (c : Counts). c.left) same) (ap (λ (c : Counts). c.right) same) (ap (λ (c : Counts). c.subject) same)

-- ---- The call

pub read_call_done : (bs left right subject : List ℕ) (l r s x y : ℕ) → Tables (length left) (length right) (length subject) bs l r s x y
    → given (Ok (record { left = l; right = r; subject = s })) (at_front left (words_from bs 5 l)) (at_front right (words_from bs (1 + x + 4) r)) (at_front subject (words_from bs (1 + x + y + 4) s))
    ≡ read_call bs left right subject
unfolding read_call
read_call_done bs left right subject l r s x y t =
    rw (t.is, length_words_from bs 5 l t.left_holds.whole, length_words_from bs (1 + x + 4) r t.right_holds.whole, length_words_from bs (1 + x + y + 4) s t.subject_holds.whole)

pub read_call_refused : (bs left right subject : List ℕ) → counts_of (file_in (length left) (length right) (length subject) bs) ≡ None → given (Err BadFile) left right subject ≡ read_call bs left right subject
unfolding read_call
read_call_refused bs left right subject h = go (file_in (length left) (length right) (length subject) bs) h
  where
    go : (o : Math.Option File) → counts_of o ≡ None → given (Err BadFile) left right subject ≡ read_answer left right subject (or_refuse o BadFile)
    go none h = refl
    go (some (file L R S)) h = never (cc)
