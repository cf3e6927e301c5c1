-- `weaver::weave_in` meets its contract: question by question, then the lines. Assumes nothing.
use mathlib.Core.Path.{sym, ap}
use Rattle.spec.specs.Facts.{kept_is_prior, work_is_next, belongs}
use Rattle.layout.proofs.StartLaws.{block_few}
use Rattle.rule.specs.Nodes.{table_in, form_in}
use Rattle.rule.proofs.AnswerLaws.{handed_on}
use Rattle.rule.proofs.EachLaws.{length_each}
use Rattle.weaver.proofs.NotedLaws.{shared_set}
use Rattle.weaver.proofs.WeaveLaws.{few_nodes, rule_passed, bare_small, refused_first, bare_no, lines_no, takes, output_no, all_yes}
use native.Mathlib.Omega.{arith}
use Rattle.weaver.proofs.weave_in.Goals as goal

pub returns-in_err-check_bare : goal.returns-in_err-check_bare
returns-in_err-check_bare g c =
    let a = c.args in
    let out = g.W.Word.numbers a.out.now in
    let no = handed_on (λ n. n) c.from_residual.result c.in_err-check_bare.field-0.0 c.from_residual.ensures.1 in
    refused_first g.W.Word.IS_WIDE a.rule.now a.bare.now out _ _ _ no (bare_no g.W.Word.IS_WIDE a.rule.now a.bare.now out _ _ (sym c.in_err-check_bare.ensures))

pub belonging-most-requires : goal.belonging-most-requires
belonging-most-requires g c = let a = c.args in few_nodes a.rule.now (rule_passed form_in a.rule.now a.bare.now (sym c.in_ok-check_bare.ensures))

pub measure_nodes-requires : goal.measure_nodes-requires
unfolding belongs
measure_nodes-requires g c =
    let a = c.args in
    let all = c.belonging-most.ensures in
    let past = ap (λ F. F kept_is_prior) all in
    let shared = shared_set (table_in a.rule.now) _ _ _ (ap (λ F. F work_is_next) all) past c.difference-shared.ensures in
    (rule_passed form_in a.rule.now a.bare.now (sym c.in_ok-check_bare.ensures), shared)

pub block_size-size-requires : goal.block_size-size-requires
unfolding belongs
block_size-size-requires g c =
    let a = c.args in
    let all = c.belonging-most.ensures in
    let past = ap (λ F. F kept_is_prior) all in
    let shared = shared_set (table_in a.rule.now) _ _ _ (ap (λ F. F work_is_next) all) past c.difference-shared.ensures in
    (c.measure_nodes.ensures, shared)

pub count_lines-lines-requires : goal.count_lines-lines-requires
count_lines-lines-requires g c =
    let a = c.args in
    let f = block_few a.rule.now (rule_passed form_in a.rule.now a.bare.now (sym c.in_ok-check_bare.ensures)) in
    let b = c.block_size-size.ensures in
    (bare_small a.rule.now a.bare.now (sym c.in_ok-check_bare.ensures), omega arith)

pub returns-then-lines-gt1024 : goal.returns-then-lines-gt1024
returns-then-lines-gt1024 g c =
    let a = c.args in
    let d = c.count_lines-lines.ensures (table_in a.rule.now) c.block_size-size.ensures in
    let h = c.if-lines-gt1024.true in
    lines_no g.W.Word.IS_WIDE a.rule.now a.bare.now (g.W.Word.numbers a.out.now) (sym c.in_ok-check_bare.ensures) (omega arith)

pub returns-then-out-lines : goal.returns-then-out-lines
returns-then-out-lines g c =
    let a = c.args in
    let d = c.count_lines-lines.ensures (table_in a.rule.now) c.block_size-size.ensures in
    let h = c.if-lines-gt1024.false in
    let s = c.if-out-lines.true in
    let there = length_each g.met.W.Word.each a.out.now in
    output_no g.W.Word.IS_WIDE a.rule.now a.bare.now (g.W.Word.numbers a.out.now) (sym c.in_ok-check_bare.ensures) (omega arith) (omega arith)

pub put_script-requires : goal.put_script-requires
unfolding belongs
put_script-requires g c =
    let a = c.args in
    let d = c.count_lines-lines.ensures (table_in a.rule.now) c.block_size-size.ensures in
    let h = c.if-lines-gt1024.false in
    let s = c.if-out-lines.false in
    let there = length_each g.met.W.Word.each a.out.now in
    let all = c.belonging-most.ensures in
    let past = ap (λ F. F kept_is_prior) all in
    let shared = shared_set (table_in a.rule.now) _ _ _ (ap (λ F. F work_is_next) all) past c.difference-shared.ensures in (
      record {
        sized = c.measure_nodes.ensures;
        shared_is = shared;
        past_is = past;
        weavable = takes g.W.Word.IS_WIDE a.rule.now a.bare.now (g.W.Word.numbers a.out.now) (sym c.in_ok-check_bare.ensures) (omega arith);
        block_is = c.block_size-size.ensures;
      },
      omega arith,
    )

pub returns : goal.returns
returns g c =
    let a = c.args in
    let d = c.count_lines-lines.ensures (table_in a.rule.now) c.block_size-size.ensures in
    let h = c.if-lines-gt1024.false in
    let s = c.if-out-lines.false in
    let there = length_each g.met.W.Word.each a.out.now in
    all_yes g.W.Word.IS_WIDE a.rule.now a.bare.now (g.W.Word.numbers a.out.now) (sym c.in_ok-check_bare.ensures) (omega arith) (omega arith) _ _ d c.put_script.ensures
