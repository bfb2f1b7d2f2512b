-- The promises of specs/Promises, each sentence by the law that shows it.
use Rattle.promises.specs.Promises.{Demand1, Demand2, Demand3, Tight}
use mathlib.Core.Path.{ap}
use Rattle.documents.specs.Calls.{RunAnswer, WatchAnswer}
use Rattle.promises.proofs.Ordered.{read_order_lem, compile_order_lem, check_order_lem, run_order_lem, watch_order_lem}
use Rattle.promises.proofs.Refused.{one_number_lem, not_done_lem, read_leaves_lem, compile_leaves_lem, run_leaves_lem, watch_leaves_lem, run_zeros}
use Rattle.promises.proofs.Passed.{passed_reads, passed_steps, passed_ends, run_fails_lem, run_ends_lem, watch_steps_lem, watch_fails_lem, watch_ends_lem}
use Rattle.promises.proofs.Translated.{code_passes, code_fits, compiles, ran_matches, only_one_lem, ran_leaves, ran_limits}
use Rattle.promises.proofs.Again.{run_given_lem, run_again}
use Rattle.promises.proofs.Agreeing.{reads_agree, compiles_agree, checks_agree, runs_agree, watches_agree, list_runs_agree}

pub demand_1 : Demand1
demand_1 = record {
  reads = read_order_lem;
  compiles = compile_order_lem;
  checks = check_order_lem;
  watches = watch_order_lem;
  runs = run_order_lem;
  one_number = one_number_lem;
  not_done = not_done_lem;
  read_leaves = read_leaves_lem;
  compile_leaves = compile_leaves_lem;
  run_leaves = run_leaves_lem;
  watch_leaves = watch_leaves_lem;
  zeros = run_zeros;
}

pub demand_2 : Demand2
demand_2 = record {
  compiles = compiles;
  fits = code_fits;
  matches = ran_matches;
  only_one = only_one_lem;
  leaves = ran_leaves;
  limits = ran_limits;
}

pub demand_3 : Demand3
demand_3 = record { reads = passed_reads; steps = passed_steps; ends = passed_ends; passes = code_passes; given = run_given_lem; again = run_again }

pub tight : Tight
tight = record {
  reads = reads_agree;
  compiles = compiles_agree;
  checks = checks_agree;
  runs = runs_agree;
  watches = watches_agree;
  lists = list_runs_agree;
  run_fails = λ code subject working result c t p room e. ap (λ (a : RunAnswer). a.number) (run_fails_lem code subject c t p working result room e);
  run_ends = λ code subject working result c t u env p room e. run_ends_lem code subject c t p working result room u env e;
  watch_steps = λ code subject i c t p. watch_steps_lem code subject c t p i;
  watch_fails = λ code subject i c t p e. ap (λ (a : WatchAnswer). a.number) (watch_fails_lem code subject c t p i e);
  watch_ends = λ code subject i c t σ p e. watch_ends_lem code subject c t p i σ e;
}
