-- What the walk that writes a result is asked to write: the words of trees that stand in the code with their links.
use Rattle.std.specs.Prelude.{◌≡◌, ℕ, ◌+◌, ◌-◌, ◌*◌, ◌/◌, ◌≤◌, ◌<◌, Bool, true, ◌&&◌, cond, List, eqb, length, get_or, take, drop}
use Rattle.documents.specs.Lists.{assoc, pairlists}
use Rattle.documents.specs.Terms.{Sort, one, many}
use Rattle.documents.specs.Instructions.{op_cell, op_pushimm}
use Rattle.instructions.specs.Bodies.{key_place}
use Rattle.trees.specs.Trees.{Tree, Pushed, or_one, depth_of, or_moved_words, words_of}
use Rattle.links.specs.Nodewise.{is_free, seen_at}
use Rattle.links.specs.Standing.{entry_place, entry_at, Scene, Placed, Safe, Spot, root, Stands}
use Rattle.links.specs.declared.given.Given.{Given}
use Rattle.writer.specs.declared.place.Place.{Place}
use Rattle.writer.specs.Written.{nstack}

-- The setting of the walk: OFFSET and `opened`, that holds OFFSET at each of l open LAMBDAs. A body's words are fewer than those around it, and it stands
-- under fewer than 64 abstractions of its entry, so OFFSET stays small.
pub record Ready (code subject entries work result opened : List ℕ) (end offset l words : ℕ) : Type 0 where
  pub scene : Scene code subject entries work
  pub inside : end ≤ length result
  pub lambdas : l ≤ 63
  pub long : length opened ≡ 128
  pub low : (i : ℕ) → i < l → get_or opened i 0 ≤ offset
  pub small : offset + 64 * words ≤ 1048576

-- .. what of it is not known of the parts themselves
pub record Going (subject work result opened : List ℕ) (end offset l : ℕ) : Type 0 where
  pub placed : Placed subject work
  pub inside : end ≤ length result
  pub long : length opened ≡ 128
  pub low : (i : ℕ) → i < l → get_or opened i 0 ≤ offset

-- Of a CELL or ADBMAL: how many terms it takes, how many LAMBDAs are open in these, how many around it if so many are open in these, whether it is a
-- symbol without arguments, and the word of its node.
unfoldable pub arguments_at : List ℕ → ℕ → ℕ
arguments_at code at = cond (eqb (get_or code at 0) op_cell) (get_or code (at + 2) 0) 1

unfoldable pub lambdas_in : List ℕ → ℕ → ℕ → ℕ
lambdas_in code at l = cond (eqb (get_or code at 0) op_cell) l (l + 1)

unfoldable pub lambdas_around : List ℕ → ℕ → ℕ → ℕ
lambdas_around code at l = cond (eqb (get_or code at 0) op_cell) l (l - 1)

unfoldable pub is_constant : List ℕ → ℕ → Bool
is_constant code at = eqb (get_or code at 0) op_cell && eqb (get_or code (at + 2) 0) 0

unfoldable pub head_at : List ℕ → ℕ → ℕ
head_at code at = cond (eqb (get_or code at 0) op_cell) (65536 + get_or code (at + 1) 0) 196608

-- A PUSHIMM, or a PUSHI without bodies under which no index changes.
unfoldable pub moves_nothing : List ℕ → ℕ → ℕ → Bool
moves_nothing code at offset = cond (eqb (get_or code at 0) op_pushimm) true (eqb (get_or code (at + 3) 0) 0 && eqb (get_or code (at + 2) 0 + offset) 64)

module _ (code subject entries work : List ℕ) (words l : ℕ) where
  -- a tree, or trees, that stand in so many words of the code
  pub record Standing {s : Sort} (p : Tree s) (x : Spot s) : Type 0 where
    pub lo : ℕ
    pub hi : ℕ
    pub stands : Stands code subject entries (drop 4096 work) lo hi work p x
    pub safe : Safe l p
    pub short : hi ≤ length code
    pub few : hi ≤ lo + words

  -- .. below so many levels that the whole is at most 64 deep
  module _ (level offset : ℕ) (nst : List ℕ) where
    -- the words of the tree whose root stands there
    pub record TreeAt (z : ℕ) (ws : List ℕ) : Type 0 where
      pub tree : Tree one
      pub standing : Standing tree (root z)
      pub shallow : level + depth_of (entry_at subject entries) tree ≤ 64
      pub these : ws ≡ words_of (entry_at subject entries) tree offset nst

    -- of a variable x, free under n abstractions of the entry of a PUSHI
    pub record FreeAt (z x n : ℕ) (ws : List ℕ) : Type 0 where
      pub e : ℕ
      pub D : ℕ
      pub ks : List ℕ
      pub bodies : Tree many
      pub standing : Standing (Pushed e D ks bodies) (root z)
      pub shallow : level + or_one (assoc (pairlists ks (depth_of (entry_at subject entries) bodies)) (x - n)) ≤ 64
      pub these : ws ≡ or_moved_words (assoc (pairlists ks (words_of (entry_at subject entries) bodies)) (x - n)) D n x offset nst

-- the same, of what is given and the place where it stands
abbrev pub TreeFor : Given → List ℕ → List ℕ → Place → ℕ → List ℕ → Type 0
TreeFor given work opened p z = TreeAt given.code.now given.subject.now given.entries.now work p.words p.lambdas p.level p.offset (nstack p.offset p.lambdas opened) z

abbrev pub FreeFor : Given → List ℕ → List ℕ → Place → ℕ → ℕ → ℕ → List ℕ → Type 0
FreeFor given work opened p z x n = FreeAt given.code.now given.subject.now given.entries.now work p.words p.lambdas p.level p.offset (nstack p.offset p.lambdas opened) z x n

-- the entry of a PUSHI, as the part of the subject from its place to its noted end, and where the places of its nodes begin
pub record EntryPart (code : List ℕ) (z : ℕ) (part : List ℕ) (places : ℕ) (subject entries work : List ℕ) : Type 0 where
  pub part_is : part ≡ take (get_or work (z + 1) 0 - entry_place entries (get_or code (z + 1) 0)) (drop (entry_place entries (get_or code (z + 1) 0)) subject)
  pub places_are : places ≡ 4096 + entry_place entries (get_or code (z + 1) 0) / 2

-- a variable of an entry met by the walk: it is free there, and its body, if it has one, was measured
pub record Met (code work : List ℕ) (z x n : ℕ) : Type 0 where
  pub free : is_free x n ≡ true
  pub shallow : n < 64
  pub seen : seen_at work (key_place code (z + 4) (get_or code (z + 3) 0) (x - n)) ≡ true
