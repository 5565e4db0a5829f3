use Rattle.std.proofs.Common.{map}
use Rattle.splitting.specs.Score.{Question, note}
use Rattle.search.specs.Candidates.{Asked, UnderCandidate, Among}
use Rattle.search.specs.Sheets.{AsLong}
use Rattle.search.proofs.candidates.best_of_all.Given as goal

abbrev pub invariant-loop-b : goal.invariant-loop-b
invariant-loop-b g l =
    AsLong l.initial.sheets l.sheets
    × UnderCandidate g.S.Symbol.kind l.asking.mode (map g.S.Symbol.byte l.ground.tally.cells.now) (note (map g.S.Symbol.byte l.asking.query.notes.now) 1) l.best
    × ((ask : Question) → Asked ask (map g.S.Symbol.byte l.ground.tally.cells.now) l.ground.tracks g.S.Symbol.kind l.asking.mode l.asking.limit (map g.S.Symbol.byte l.asking.query.notes.now) → Among g.P.Price.pricing g.P.Price.meaning ask l.ground.tracks 0 l.b l.best)
