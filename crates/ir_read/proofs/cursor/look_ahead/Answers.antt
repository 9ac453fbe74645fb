use Rattle.ir_read.proofs.Places.{next_tokens, next_whole, at_end_tokens, at_end_whole, none_tokens, none_whole}
use Rattle.ir_read.proofs.cursor.look_ahead.Goals as goal

pub returns-in-Ok-Some-clause-ahead : goal.returns-in-Ok-Some-clause-ahead
returns-in-Ok-Some-clause-ahead c =
    next_tokens c.tokens_are_cut.ensures c.args.tokens.now c.next.new.self c.in-Ok-Some.token.kind c.in-Ok-Some.token.start c.in-Ok-Some.token.«end» c.in-Ok-Some.token.text.now (rw c.in-Ok-Some.field-0-is at c.in-Ok-Some.ensures.found) c.next.ensures.text (rw c.in-Ok-Some.field-0-is at c.in-Ok-Some.ensures.after) _ c.item_of.ensures

pub returns-in-Ok-Some-clause-whole : goal.returns-in-Ok-Some-clause-whole
returns-in-Ok-Some-clause-whole c =
    next_whole c.tokens_are_cut.ensures c.args.tokens.now c.next.new.self c.in-Ok-Some.token.kind c.in-Ok-Some.token.start c.in-Ok-Some.token.«end» c.in-Ok-Some.token.text.now (rw c.in-Ok-Some.field-0-is at c.in-Ok-Some.ensures.found) c.next.ensures.text (rw c.in-Ok-Some.field-0-is at c.in-Ok-Some.ensures.after)

pub returns-in-Ok-None-clause-ahead : goal.returns-in-Ok-None-clause-ahead
returns-in-Ok-None-clause-ahead c =
    at_end_tokens c.cut_is_spelled.ensures c.args.tokens.now (rw c.in-Ok-None.field-0-is at c.in-Ok-None.ensures.found)

pub returns-in-Ok-None-clause-whole : goal.returns-in-Ok-None-clause-whole
returns-in-Ok-None-clause-whole c =
    at_end_whole c.cut_is_spelled.ensures c.args.tokens.now (rw c.in-Ok-None.field-0-is at c.in-Ok-None.ensures.found)

pub returns-in-Err-clause-ahead : goal.returns-in-Err-clause-ahead
returns-in-Err-clause-ahead c =
    none_tokens c.tokens_are_cut.ensures c.args.tokens.now c.in-Err.error.at c.in-Err.ensures.syntax

pub returns-in-Err-clause-whole : goal.returns-in-Err-clause-whole
returns-in-Err-clause-whole c = none_whole c.tokens_are_cut.ensures c.args.tokens.now c.in-Err.error.at c.in-Err.ensures.syntax
