use Rattle.std.proofs.Common.{◌<◌, arith}
use Rattle.table.proofs.Shapes.{segment_shaped}
use Rattle.table.proofs.Told.{segment_told}
use Rattle.join.proofs.Alls.{searched_all}
use Rattle.join.proofs.Cuts.{even_searched}
use Rattle.join.specs.Joined.{joined_rows}
use Rattle.join.proofs.tables.JoinTable.search.Goals as goal

pub returns-clause-rows : goal.returns-clause-rows
returns-clause-rows g c =
    let j = c.args.self.now in
    let q = c.args.query in
    let told = segment_told _ _ _ _ (segment_shaped _ _ (joined_rows g.U.Table g.L.Table j) c.shape.ensures.answer _ _ _ c.in_ok-check_segment.ensures.answer) in
    let within : q.segment < g.L.Table.width j.lower = let lt = told.0 in omega arith in
    searched_all 262144 _ _ _ _ _ _ _ _ _ q.segment _ c.search-2.result (even_searched _ q told.0) within
    c.search-2.ensures.answer c.search.ensures.width c.search-2.ensures.width c.in_ok-search.ensures.rows c.search-2.ensures.rows
