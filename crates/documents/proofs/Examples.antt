-- P1 to P12 of document 01 and figure 1 of 004 hold of the definitions: each computes, from words to words.
use mathlib.Core.Path.{◌≡◌, refl}
use mathlib.Core.Bool.{true}
use Rattle.documents.specs.Lists.{every}
use Rattle.documents.specs.Instructions.{program_from, plain_in}
use Rattle.documents.specs.Numbers.{table_in, subject_in, rule_in, code_in, result_for}
use Rattle.documents.specs.Calls.{compile_call, check_call, file_in, read_call, runs, run_call, plan_line, plan_apply}
use Rattle.documents.specs.Examples.{holds, table}

pub examples : every holds table ≡ true
unfolding program_from plain_in table_in subject_in rule_in code_in result_for compile_call check_call file_in read_call runs run_call plan_line plan_apply
examples = refl
