-- Code as words and words as code: each gives the other back. Reading walks the words with a number of words to pass over; `pass` turns
-- that into a place, and then each instruction's own words are read where they stand.
use mathlib.Core.Path.{◌≡◌, refl, sym, ap, ◌∙◌}
use Prim.Native.Nat.{ℕ, zero, suc, ◌+◌, ◌-◌, ◌*◌, ◌≤◌, ◌<◌}
use native.Mathlib.Omega.{arith}
use mathlib.Core.Bool.{false, cond}
use mathlib.Core.Option.{Option, none, some}
use mathlib.Core.List.{List, [], ◌∷◌, ◌++◌, append_assoc, append-nil}
use lib.Dec.{eqb, leb, eqb-suc-zero}
use lib.ListN.{length, get_or, take, drop, length-append, length-drop}
use lib.Seq.{take_at, drop_at, take-append_seam, length-take-le, take-add, drop-drop, take-length}
use borrow.Author.Tests.{le-leb, leb-true}
use Rattle.documents.specs.Lists.{need}
use Rattle.documents.specs.Instructions.{Piece, instruction, program, bodies, Code, IS, ISABST, NEXT, CHECK, SET, EQVAR, EQIMM, EQI, CELL, LAMBDA, ADBMAL, PUSHVAR, PUSHIMM, PUSHI, End, ◌▸◌, None, Body, Instruction, Program, Bodies, fixed_after, body_count, pair_words, words, pairs_in, Read, whole, plain_in, before, ReadBodies, whole_bodies, plain_then, bodies_then, body_then, program_from, bodies_from, program_in}
use Rattle.documents.proofs.Lists.{chunk_two, never, needed, branch}

-- passing over words
pub program_pass : (ws : List ℕ) (k n : ℕ) → program_from ws k n ≡ program_from (drop k ws) 0 n
unfolding program_from
program_pass [] zero n = refl
program_pass [] (suc k) n = refl
program_pass (w ∷ ws) zero n = refl
program_pass (w ∷ ws) (suc k) n = program_pass ws k n

pub bodies_pass : (ws : List ℕ) (k n c : ℕ) → bodies_from ws k n c ≡ bodies_from (drop k ws) 0 n c
unfolding bodies_from
bodies_pass [] zero n c = refl
bodies_pass [] (suc k) n c = refl
bodies_pass (w ∷ ws) zero n c = refl
bodies_pass (w ∷ ws) (suc k) n c = bodies_pass ws k n c

length_pair_words : (ps : List (ℕ × ℕ)) → length (pair_words ps) ≡ 2 * length ps
length_pair_words [] = refl
length_pair_words (p ∷ ps) = let h = length_pair_words ps in omega arith

pairs_in_pair_words : (ps : List (ℕ × ℕ)) → pairs_in (pair_words ps) ≡ ps
pairs_in_pair_words [] = refl
pairs_in_pair_words (p ∷ ps) = ap {B = List (ℕ × ℕ)} (λ l. p ∷ l) (pairs_in_pair_words ps)

-- an instruction but PUSHI, whose opcode is followed by m words
plain_reads : (op : ℕ) (args w : List ℕ) (m n : ℕ) (i : Instruction)
    → length args ≡ m → fixed_after op ≤ m → eqb op 13 ≡ false → plain_in op (args ++ w) ≡ some (whole i m)
    → program_from (op ∷ (args ++ w)) 0 (suc (m + n)) ≡ before i (program_from w 0 n)
unfolding program_from
plain_reads op args w m n i l f o r =
    let p : fixed_after op ≤ m + n = omega arith in
    let q : m ≤ m + n = omega arith in
    let e : m + n - m ≡ n = omega arith in
    rw (le-leb (fixed_after op) (m + n) p, o, r, le-leb m (m + n) q, e, program_pass (args ++ w) m n, drop_at args w m l)

abbrev pub Reads : (p : Piece) → Code p → Type 0
Reads instruction i = (w : List ℕ) (n : ℕ) → program_from (words i ++ w) 0 (length (words i) + n) ≡ before i (program_from w 0 n)
Reads program c = (w : List ℕ) → program_from (words c ++ w) 0 (length (words c)) ≡ some c
Reads bodies a = (w : List ℕ) (n : ℕ) → bodies_from (words a ++ w) 0 (length (words a) + n) (body_count a) ≡ some (whole_bodies a n)

-- the words of i, as an opcode and m words behind it
reads_plain : (i : Instruction) (op m : ℕ) (args : List ℕ) → words i ≡ op ∷ args → length args ≡ m → fixed_after op ≤ m → eqb op 13 ≡ false
    → ((w : List ℕ) → plain_in op (args ++ w) ≡ some (whole i m)) → Reads instruction i
reads_plain i op m args e l f o r w n =
    let z : suc (length args) + n ≡ suc (m + n) = omega arith in
    rw (e, z) (plain_reads op args w m n i l f o (r w))

end_reads : (w : List ℕ) → program_from w 0 0 ≡ some End
unfolding program_from
end_reads [] = refl
end_reads (x ∷ w) = refl

none_reads : (w : List ℕ) (n : ℕ) → bodies_from w 0 n 0 ≡ some (whole_bodies None n)
unfolding bodies_from
none_reads [] n = refl
none_reads (x ∷ w) n = refl

check_reads : (vs w : List ℕ) → plain_in 3 ((length vs ∷ vs) ++ w) ≡ some (whole (CHECK vs) (1 + length vs))
unfolding plain_in
check_reads vs w = rw (take-append_seam vs w)

eqi_reads : (e D : ℕ) (ps : List (ℕ × ℕ)) (w : List ℕ)
    → plain_in 7 ((e ∷ D ∷ length ps ∷ pair_words ps) ++ w) ≡ some (whole (EQI e D ps) (3 + 2 * length ps))
unfolding plain_in
eqi_reads e D ps w = rw (take_at (pair_words ps) w (2 * length ps) (length_pair_words ps), pairs_in_pair_words ps)

pushi_step : (ws : List ℕ) (n : ℕ) → 3 ≤ n
    → program_from (13 ∷ ws) 0 (suc n) ≡ bodies_then (bodies_from ws 3 (n - 3) (get_or ws 2 0)) (get_or ws 0 0) (get_or ws 1 0) n (λ k m. program_from ws k m)
unfolding program_from
pushi_step ws n h = rw (le-leb 3 n h)

pushi_reads : (e D : ℕ) (a : Bodies) → Reads bodies a → Reads instruction (PUSHI e D a)
pushi_reads e D a r w n =
    let m = length (words a) in
    let ws = e ∷ D ∷ body_count a ∷ (words a ++ w) in
    let z : suc (suc (suc (suc m))) + n ≡ suc (3 + (m + n)) = omega arith in
    let g : 3 + (m + n) - 3 ≡ m + n = omega arith in
    let h : 3 + (m + n) - n ≡ 3 + m = omega arith in
    let o : 3 + m ≡ m + 3 = omega arith in
    rw (z, pushi_step ws (3 + (m + n)) (omega arith), g, bodies_pass ws 3 (m + n) (body_count a), r w n, h, program_pass ws (3 + m) n)
    (ap (λ (l : List ℕ). before (PUSHI e D a) (program_from l 0 n)) (drop_at (e ∷ D ∷ body_count a ∷ words a) w (3 + m) (omega arith)))

body_step : (k : ℕ) (ws : List ℕ) (n c : ℕ) → 2 + get_or ws 0 0 ≤ n
    → bodies_from (k ∷ ws) 0 n (suc c) ≡ body_then k (program_from ws 1 (get_or ws 0 0)) (bodies_from ws (1 + get_or ws 0 0) (n - 2 - get_or ws 0 0) c)
unfolding bodies_from
body_step k ws n c h = rw (le-leb (2 + get_or ws 0 0) n h)

body_reads : (k : ℕ) (c : Program) (a : Bodies) → Reads program c → Reads bodies a → Reads bodies (Body k c a)
body_reads k c a p r w n =
    let m = length (words c) in
    let ws = m ∷ ((words c ++ words a) ++ w) in
    let l = length-append (words c) (words a) in
    let z : suc (suc (length (words c ++ words a))) + n ≡ 2 + (m + (length (words a) + n)) = omega arith in
    let g : 2 + (m + (length (words a) + n)) - 2 - m ≡ length (words a) + n = omega arith in
    rw (
      z,
      body_step k ws (2 + (m + (length (words a) + n))) (body_count a) (omega arith),
      g,
      program_pass ws 1 m,
      bodies_pass ws (1 + m) (length (words a) + n) (body_count a),
      append_assoc (words c) (words a) w,
      p (words a ++ w),
    )
    (ap (λ (l : List ℕ). body_then k (some c) (bodies_from l 0 (length (words a) + n) (body_count a))) (drop_at (m ∷ words c) (words a ++ w) (1 + m) (omega arith))
    ∙ ap (body_then k (some c)) (r w n))

program_reads : (i : Instruction) (c : Program) → Reads instruction i → Reads program c → Reads program (i ▸ c)
program_reads i c r p w =
    rw (append_assoc (words i) (words c) w, length-append (words i) (words c)) (r (words c ++ w) (length (words c)) ∙ ap (before i) (p w))

pub reads : {p : Piece} (c : Code p) → Reads p c
unfolding plain_in
reads (IS s n) = reads_plain (IS s n) 0 2 (s ∷ n ∷ []) refl refl (omega arith) refl (λ w. refl)
reads ISABST = reads_plain ISABST 1 0 [] refl refl (omega arith) refl (λ w. refl)
reads NEXT = reads_plain NEXT 2 0 [] refl refl (omega arith) refl (λ w. refl)
reads (CHECK vs) = reads_plain (CHECK vs) 3 (1 + length vs) (length vs ∷ vs) refl (omega arith) (omega arith) refl (check_reads vs)
reads SET = reads_plain SET 4 0 [] refl refl (omega arith) refl (λ w. refl)
reads (EQVAR x) = reads_plain (EQVAR x) 5 1 (x ∷ []) refl refl (omega arith) refl (λ w. refl)
reads (EQIMM e) = reads_plain (EQIMM e) 6 1 (e ∷ []) refl refl (omega arith) refl (λ w. refl)
reads (EQI e D ps) =
    reads_plain (EQI e D ps) 7 (3 + 2 * length ps) (e ∷ D ∷ length ps ∷ pair_words ps) refl (omega (arith, length_pair_words ps)) (omega arith) refl (eqi_reads e D ps)
reads (CELL s n) = reads_plain (CELL s n) 8 2 (s ∷ n ∷ []) refl refl (omega arith) refl (λ w. refl)
reads LAMBDA = reads_plain LAMBDA 9 0 [] refl refl (omega arith) refl (λ w. refl)
reads ADBMAL = reads_plain ADBMAL 10 0 [] refl refl (omega arith) refl (λ w. refl)
reads (PUSHVAR x) = reads_plain (PUSHVAR x) 11 1 (x ∷ []) refl refl (omega arith) refl (λ w. refl)
reads (PUSHIMM e) = reads_plain (PUSHIMM e) 12 1 (e ∷ []) refl refl (omega arith) refl (λ w. refl)
reads (PUSHI e D a) = pushi_reads e D a (reads a)
reads End = end_reads
reads (i ▸ c) = program_reads i c (reads i) (reads c)
reads None = λ w n. let z : 0 + n ≡ n = omega arith in rw z (none_reads w n)
reads (Body k c a) = body_reads k c a (reads c) (reads a)

-- code is read back from its words
pub program_in_words : (c : Program) → program_in (words c) ≡ some c
program_in_words c = ap (λ (l : List ℕ). program_from l 0 (length (words c))) (sym (append-nil (words c))) ∙ reads c []

-- ---- The other way: what was read gives the words back

-- m words behind an opcode are those of an instruction
abbrev Behind : ℕ → List ℕ → Instruction → ℕ → Type 0
Behind w ws i m = m ≤ length ws → words i ≡ w ∷ take m ws

one_word : (ws : List ℕ) → 1 ≤ length ws → take 1 ws ≡ get_or ws 0 0 ∷ []
one_word [] h = absurd (omega arith)
one_word (x ∷ ws) h = refl

two_words : (ws : List ℕ) → 2 ≤ length ws → take 2 ws ≡ get_or ws 0 0 ∷ get_or ws 1 0 ∷ []
two_words [] h = absurd (omega arith)
two_words (x ∷ []) h = absurd (omega arith)
two_words (x ∷ y ∷ ws) h = refl

check_behind : (ws : List ℕ) → Behind 3 ws (CHECK (take (get_or ws 0 0) (drop 1 ws))) (1 + get_or ws 0 0)
check_behind [] h = absurd (omega arith)
check_behind (c ∷ ws) h =
    let l : length (take c ws) ≡ c = length-take-le c ws (omega arith) in
    let z : 1 + c ≡ suc c = omega arith in
    rw (z, l)

pair_words_pairs_in : (c : ℕ) (ws : List ℕ) → length ws ≡ 2 * c → (pair_words (pairs_in ws) ≡ ws) × (length (pairs_in ws) ≡ c)
pair_words_pairs_in c [] h = (refl, omega arith)
pair_words_pairs_in c (x ∷ []) h = absurd (omega arith)
pair_words_pairs_in zero (x ∷ y ∷ ws) h = absurd (omega arith)
pair_words_pairs_in (suc c) (x ∷ y ∷ ws) h =
    let r = pair_words_pairs_in c ws (omega arith) in
    (ap (λ (l : List ℕ). x ∷ y ∷ l) r.0, ap suc r.1)

eqi_behind : (ws : List ℕ) → Behind 7 ws (EQI (get_or ws 0 0) (get_or ws 1 0) (pairs_in (take (2 * get_or ws 2 0) (drop 3 ws)))) (3 + 2 * get_or ws 2 0)
eqi_behind [] h = absurd (omega arith)
eqi_behind (e ∷ []) h = absurd (omega arith)
eqi_behind (e ∷ D ∷ []) h = absurd (omega arith)
eqi_behind (e ∷ D ∷ c ∷ ws) h =
    let r = pair_words_pairs_in c (take (2 * c) ws) (length-take-le (2 * c) ws (omega arith)) in
    let z : 3 + 2 * c ≡ suc (suc (suc (2 * c))) = omega arith in
    rw (z, r.0, r.1)

told : (w op : ℕ) (ws : List ℕ) (i j : Instruction) (m n : ℕ) → w ≡ op → ◌≡◌ {A = Option Read} (some (whole j n)) (some (whole i m)) → Behind op ws j n → Behind w ws i m
told w op ws i j m n p q b h =
    let e : i ≡ j = cc in
    let f : m ≡ n = cc in
    rw (e, f, p) (b (omega arith))

plain_behind : (w : ℕ) (ws : List ℕ) (i : Instruction) (m : ℕ) → plain_in w ws ≡ some (whole i m) → Behind w ws i m
unfolding plain_in
plain_behind w ws i m e =
    branch w 0 e (λ p q. told w 0 ws i _ m 2 p q (λ h. rw (two_words ws h))) λ e.
    branch w 1 e (λ p q. told w 1 ws i _ m 0 p q (λ h. refl)) λ e.
    branch w 2 e (λ p q. told w 2 ws i _ m 0 p q (λ h. refl)) λ e.
    branch w 3 e (λ p q. told w 3 ws i _ m _ p q (check_behind ws)) λ e.
    branch w 4 e (λ p q. told w 4 ws i _ m 0 p q (λ h. refl)) λ e.
    branch w 5 e (λ p q. told w 5 ws i _ m 1 p q (λ h. rw (one_word ws h))) λ e.
    branch w 6 e (λ p q. told w 6 ws i _ m 1 p q (λ h. rw (one_word ws h))) λ e.
    branch w 7 e (λ p q. told w 7 ws i _ m _ p q (eqi_behind ws)) λ e.
    branch w 8 e (λ p q. told w 8 ws i _ m 2 p q (λ h. rw (two_words ws h))) λ e.
    branch w 9 e (λ p q. told w 9 ws i _ m 0 p q (λ h. refl)) λ e.
    branch w 10 e (λ p q. told w 10 ws i _ m 0 p q (λ h. refl)) λ e.
    branch w 11 e (λ p q. told w 11 ws i _ m 1 p q (λ h. rw (one_word ws h))) λ e.
    branch w 12 e (λ p q. told w 12 ws i _ m 1 p q (λ h. rw (one_word ws h))) λ e.
    never (cc)

-- What the words after the first k of ws, n of them, give when read
abbrev ProgramWords : List ℕ → Type 0
ProgramWords ws = (k n : ℕ) (c : Program) → k + n ≤ length ws → program_from ws k n ≡ some c → words c ≡ take n (drop k ws)

abbrev BodiesWords : List ℕ → Type 0
BodiesWords ws = (k n c : ℕ) (a : Bodies) (m : ℕ) → k + n ≤ length ws → bodies_from ws k n c ≡ some (whole_bodies a m)
    → (m ≤ n) × (words a ≡ take (n - m) (drop k ws)) × (body_count a ≡ c)

before_is : (i : Instruction) (o : Option Program) (c : Program) → before i o ≡ some c → (d : Program) × (o ≡ some d) × (c ≡ i ▸ d)
before_is i none c e = never (cc)
before_is i (some d) c e = (d, refl, cc)

three_words : (ws : List ℕ) → 3 ≤ length ws → take 3 ws ≡ get_or ws 0 0 ∷ get_or ws 1 0 ∷ get_or ws 2 0 ∷ []
three_words [] h = absurd (omega arith)
three_words (x ∷ []) h = absurd (omega arith)
three_words (x ∷ y ∷ []) h = absurd (omega arith)
three_words (x ∷ y ∷ z ∷ ws) h = refl

-- the first m words, and n - m behind them
take_both : (m n : ℕ) (ws : List ℕ) → m ≤ n → take n ws ≡ take m ws ++ take (n - m) (drop m ws)
take_both m n ws h = let e : m + (n - m) ≡ n = omega arith in ap (λ (k : ℕ). take k ws) (sym e) ∙ take-add m (n - m) ws

plain_words : (w : ℕ) (ws : List ℕ) (n : ℕ) (c : Program) → n ≤ length ws → ProgramWords ws → plain_then (plain_in w ws) n (λ k m. program_from ws k m) ≡ some c
    → words c ≡ w ∷ take n ws
plain_words w ws n c h ih e = go (plain_in w ws) refl e
  where
    go : (o : Option Read) → plain_in w ws ≡ o → plain_then o n (λ k m. program_from ws k m) ≡ some c → words c ≡ w ∷ take n ws
    go none p e = never (cc)
    go (some (whole i m)) p e =
        let g = needed (leb m n) _ c e in
        let lo = leb-true m n g.0 in
        let r = before_is i (program_from ws m (n - m)) c g.1 in
        rw (r.2, plain_behind w ws i m p (omega arith), ih m (n - m) r.0 (omega arith) r.1, take_both m n ws lo)

pushi_words : (ws : List ℕ) (n : ℕ) (c : Program) → n ≤ length ws → 3 ≤ n → ProgramWords ws → BodiesWords ws
    → bodies_then (bodies_from ws 3 (n - 3) (get_or ws 2 0)) (get_or ws 0 0) (get_or ws 1 0) n (λ k m. program_from ws k m) ≡ some c → words c ≡ 13 ∷ take n ws
pushi_words ws n c h lo ih ib e = go (bodies_from ws 3 (n - 3) (get_or ws 2 0)) refl e
  where
    go : (o : Option ReadBodies) → bodies_from ws 3 (n - 3) (get_or ws 2 0) ≡ o → bodies_then o (get_or ws 0 0) (get_or ws 1 0) n (λ k m. program_from ws k m) ≡ some c
        → words c ≡ 13 ∷ take n ws
    go none p e = never (cc)
    go (some (whole_bodies a m)) p e =
        let b = ib 3 (n - 3) (get_or ws 2 0) a m (omega arith) p in
        let r = before_is (PUSHI (get_or ws 0 0) (get_or ws 1 0) a) (program_from ws (n - m) m) c e in
        let z : n - (n - m) ≡ m = omega (arith, b.0) in
        let y : n - m - 3 ≡ n - 3 - m = omega arith in
        rw (
          r.2,
          b.1,
          b.2,
          ih (n - m) m r.0 (omega (arith, b.0)) r.1,
          take_both (n - m) n ws (omega arith),
          take_both 3 (n - m) ws (omega (arith, b.0)),
          three_words ws (omega arith),
          z,
          y,
        )

-- the words of a body: its key, its count b, b words; x words are left behind them, m of these behind all bodies
body_numbers : (x b m : ℕ) → m ≤ x → let n = x + b + 2 in
    (m ≤ n) × (n - m ≡ suc (n - m - 1)) × (1 ≤ n - m - 1) × (b ≤ n - m - 1 - 1) × (n - m - 1 - 1 - b ≡ x - m)
body_numbers x b m h = (omega arith, omega arith, omega arith, omega arith, omega arith)

body_words_lem : (w : ℕ) (ws : List ℕ) (n c : ℕ) (a : Bodies) (m : ℕ) → n ≤ suc (length ws) → ProgramWords ws → BodiesWords ws
    → need (leb (2 + get_or ws 0 0) n) (body_then w (program_from ws 1 (get_or ws 0 0)) (bodies_from ws (1 + get_or ws 0 0) (n - 2 - get_or ws 0 0) c)) ≡ some (whole_bodies a m)
    → (m ≤ n) × (words a ≡ take (n - m) (w ∷ ws)) × (body_count a ≡ suc c)
body_words_lem w ws n c a m h ih ib e =
    let g = needed (leb (2 + get_or ws 0 0) n) _ (whole_bodies a m) e in
    go (program_from ws 1 (get_or ws 0 0)) refl (bodies_from ws (1 + get_or ws 0 0) (n - 2 - get_or ws 0 0) c) refl (leb-true (2 + get_or ws 0 0) n g.0) g.1
  where
    go : (o : Option Program) → program_from ws 1 (get_or ws 0 0) ≡ o → (q : Option ReadBodies) → bodies_from ws (1 + get_or ws 0 0) (n - 2 - get_or ws 0 0) c ≡ q
        → 2 + get_or ws 0 0 ≤ n → body_then w o q ≡ some (whole_bodies a m) → (m ≤ n) × (words a ≡ take (n - m) (w ∷ ws)) × (body_count a ≡ suc c)
    go none p q s lo e = never (cc)
    go (some d) p none s lo e = never (cc)
    go (some d) p (some (whole_bodies a' m')) s lo e =
        let x : a ≡ Body w d a' = cc in
        let y : m ≡ m' = cc in
        let b = get_or ws 0 0 in
        let r = ib (1 + b) (n - 2 - b) c a' m' (omega arith) s in
        let u = ih 1 b d (omega arith) p in
        let l : length (take b (drop 1 ws)) ≡ b = length-take-le b (drop 1 ws) (simp length-drop (omega arith)) in
        let t : n - 2 - b + b + 2 ≡ n = omega arith in
        let (f, z, i, j, v) = rw t at (body_numbers (n - 2 - b) b m' r.0) in
        rw (x, y) (
          f,
          rw (z, u, r.1, l, take_both 1 (n - m' - 1) ws i, take_both b (n - m' - 1 - 1) (drop 1 ws) j, drop-drop b 1 ws, v, one_word ws (omega arith)),
          ap suc r.2,
        )

nothing_program : (k n : ℕ) (c : Program) → k + n ≤ 0 → need (eqb n 0) (some End) ≡ some c → words c ≡ take n (drop {A = ℕ} k [])
nothing_program zero zero c h e = let x : c ≡ End = cc in rw x
nothing_program zero (suc n) c h e = absurd (omega arith)
nothing_program (suc k) n c h e = absurd (omega arith)

no_bodies : (n : ℕ) (ws : List ℕ) (a : Bodies) (m : ℕ) → ◌≡◌ {A = Option ReadBodies} (some (whole_bodies None n)) (some (whole_bodies a m))
    → (m ≤ n) × (words a ≡ take (n - m) ws) × (body_count a ≡ 0)
no_bodies n ws a m e =
    let x : a ≡ None = cc in
    let y : m ≡ n = cc in
    let z : n - n ≡ 0 = omega arith in
    rw (x, y, z) (omega arith, refl, refl)

program_step : (w : ℕ) (ws : List ℕ) (n : ℕ) (c : Program) → n ≤ length ws → ProgramWords ws → BodiesWords ws
    → need (leb (fixed_after w) n)
    (cond (eqb w 13) (bodies_then (bodies_from ws 3 (n - 3) (get_or ws 2 0)) (get_or ws 0 0) (get_or ws 1 0) n (λ k m. program_from ws k m)) (plain_then (plain_in w ws) n (λ k m. program_from ws k m)))
    ≡ some c → words c ≡ w ∷ take n ws
program_step w ws n c h ih ib e =
    let g = needed (leb (fixed_after w) n) _ c e in
    branch w 13 g.1 (λ p q. rw p (pushi_words ws n c h (leb-true 3 n (rw p at g.0)) ih ib q)) (plain_words w ws n c h ih)

mutual
  unfolding program_from

  pub program_words : (ws : List ℕ) → ProgramWords ws
  program_words [] k n c h e = nothing_program k n c h e
  program_words (w ∷ ws) (suc k) n c h e = program_words ws k n c (omega arith) e
  program_words (w ∷ ws) zero zero c h e = let x : c ≡ End = cc in rw x
  program_words (w ∷ ws) zero (suc n) c h e = program_step w ws n c (omega arith) (program_words ws) (λ k n c a m h e. bodies_words ws k n c a m h e) e

  pub bodies_words : (ws : List ℕ) → BodiesWords ws
  bodies_words [] k n zero a m h e = no_bodies n (drop k []) a m e
  bodies_words [] k n (suc c) a m h e = let q = rw (eqb-suc-zero c) at e in never (cc)
  bodies_words (w ∷ ws) (suc k) n c a m h e = bodies_words ws k n c a m (omega arith) e
  bodies_words (w ∷ ws) zero n zero a m h e = no_bodies n (w ∷ ws) a m e
  bodies_words (w ∷ ws) zero n (suc c) a m h e = body_words_lem w ws n c a m (omega arith) (λ k n c h e. program_words ws k n c h e) (bodies_words ws) e

-- words that hold a program are its words
pub words_program_in : (ws : List ℕ) (c : Program) → program_in ws ≡ some c → words c ≡ ws
words_program_in ws c e = program_words ws 0 (length ws) c (omega arith) e ∙ take-length ws

-- a chunk of two words is a pair, and fewer words are none
pub pairs_chunk : (x r : List ℕ) → length x ≡ 2 → pairs_in (x ++ r) ≡ (get_or x 0 0, get_or x 1 0) ∷ pairs_in r
pairs_chunk x r h = ap pairs_in (chunk_two x r h)

pub pairs_short : (r : List ℕ) → length r < 2 → pairs_in r ≡ []
pairs_short [] h = refl
pairs_short (a ∷ []) h = refl
pairs_short (a ∷ b ∷ l) h = absurd (omega arith)
