use Rattle.std.proofs.Common.{sym}
use Rattle.ty_answers.specs.Lists.{no_rows, room}
use Rattle.ty_answers.proofs.RowReplies.{front_of, has_count}
use Rattle.ty_answers.proofs.Searches.{search_answers, search_full, search_refused}
use Rattle.ty_answers.proofs.searching.search.Goals as goal

pub end_list-requires : goal.end_list-requires
end_list-requires g c = has_count c.in_ok-rows.rows c.search-found.new.into c.args.reply.now c.len-begin.result room c.len-begin.ensures c.in_ok-rows.ensures.ok c.search-found.ensures.front

pub returns-clause-answers : goal.returns-clause-answers
returns-clause-answers g c =
    search_answers g.E.S.Space g.E.Storage.own g.E.Storage.layout g.E.Storage.holds c.args.conditions.now c.end_list.result c.search-found.result c.in_ok-rows.rows c.search-found.new.into c.len-begin.result c.args.engine.now c.search-found.new.self c.args.space.now c.search-found.new.space c.args.reply.now c.end_list.new.reply
    c.len-begin.ensures c.in_ok-rows.ensures.ok c.search-found.ensures.front c.search-found.ensures.makes c.search-found.ensures.says c.search-found.ensures.quiet c.search-found.ensures.reads c.search-found.ensures.keeps c.end_list.ensures.ok

pub returns-clause-front : goal.returns-clause-front
returns-clause-front g c = c.end_list.ensures.front c.args.reply.now (sym c.len-begin.ensures) (front_of c.in_ok-rows.rows c.search-found.new.into c.args.reply.now no_rows room c.in_ok-rows.ensures.ok c.search-found.ensures.front)

pub returns-clause-full : goal.returns-clause-full
returns-clause-full g c = λ is.
    let made = c.end_list.ensures.full is in
    search_full g.E.S.Space g.E.Storage.holds g.E.Storage.fills c.args.conditions.now c.args.engine.now c.args.space.now c.search-found.new.space (c.search-found.ensures.writes made) (c.search-found.ensures.full made)

pub returns-clause-refused : goal.returns-clause-refused
returns-clause-refused g c =
    search_refused g.E.S.Space g.E.Storage.own g.E.Storage.layout g.E.Storage.holds c.args.conditions.now c.end_list.result c.search-found.result c.in_ok-rows.rows c.search-found.new.into _ room c.args.engine.now c.search-found.new.self c.args.space.now c.search-found.new.space
    c.in_ok-rows.ensures.ok c.search-found.ensures.makes c.search-found.ensures.quiet c.search-found.ensures.reads c.end_list.ensures.undone c.search-found.ensures.refused
