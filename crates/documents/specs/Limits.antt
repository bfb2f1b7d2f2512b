-- The numbers of document 01, 'Terms and node tables', in its order.
use Rattle.std.specs.Prelude.{ℕ}

-- arguments of a symbol or metavariable
abbrev pub argument_limit : ℕ
argument_limit = 8

-- nodes of a side of a rule
abbrev pub side_limit : ℕ
side_limit = 256

-- nodes of a subject and of a result
abbrev pub plan_limit : ℕ
plan_limit = 4096

-- depth of a table, its root at depth 1
abbrev pub depth_limit : ℕ
depth_limit = 64

-- distinct metavariables on the left
abbrev pub metavariable_limit : ℕ
metavariable_limit = 16

-- words of code
abbrev pub code_limit : ℕ
code_limit = 4096

-- words of a working table, at the least
abbrev pub working_words : ℕ
working_words = 8192

-- a name, or an index written in a table
abbrev pub index_limit : ℕ
index_limit = 65535

-- a node's first word is kind x 65,536 + name
abbrev pub kind_step : ℕ
kind_step = 65536

-- code words hold d + 64 for d
abbrev pub d_shift : ℕ
d_shift = 64
