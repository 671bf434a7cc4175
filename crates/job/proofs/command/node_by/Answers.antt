use Rattle.std.proofs.Common.{rules}
use Rattle.job.proofs.Digits.{as_u8, as_u16, as_u64}
use Rattle.job.proofs.command.node_by.Goals as goal

pub returns-in_err-kind : goal.returns-in_err-kind
returns-in_err-kind c =
    let k = as_u8 c.args.kind.now c.decimal.result c.decimal.ensures in
    search rules

pub returns-in_err-size : goal.returns-in_err-size
returns-in_err-size c =
    let k = as_u8 c.args.kind.now c.decimal.result c.decimal.ensures in
    let s = as_u16 c.args.size.now c.decimal-2.result c.decimal-2.ensures in
    search rules

pub returns-in_err-word : goal.returns-in_err-word
returns-in_err-word c =
    let k = as_u8 c.args.kind.now c.decimal.result c.decimal.ensures in
    let s = as_u16 c.args.size.now c.decimal-2.result c.decimal-2.ensures in
    let w = as_u64 c.args.word.now c.decimal-3.result c.decimal-3.ensures in
    search rules

pub returns : goal.returns
returns c =
    let k = as_u8 c.args.kind.now c.decimal.result c.decimal.ensures in
    let s = as_u16 c.args.size.now c.decimal-2.result c.decimal-2.ensures in
    let w = as_u64 c.args.word.now c.decimal-3.result c.decimal-3.ensures in
    search rules
