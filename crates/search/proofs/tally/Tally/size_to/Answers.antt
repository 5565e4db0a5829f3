use Rattle.std.proofs.Common.{◌≡◌, ℕ, ◌<◌, Bool, true, false, cond, eqb, ltb, List, map, ℤ, Some, None, count_by, Option, sym, refl, ap, ◌∙◌, w32, SFits, rules}
use Rattle.std.proofs.lemmas.Int.{to_z-of_z}
use Rattle.std.proofs.lemmas.Bool.{lt-ltb, ltb-true, cond-true}
use Rattle.notation.specs.Kind.{Kind}
use Rattle.notation.specs.declared.mode.Mode.{Mode}
use Rattle.splitting.specs.Score.{note}
use Rattle.search.specs.Candidates.{Candidate}
use Rattle.search.specs.Workspace.{admits, triples, candidate_size}
use Rattle.search.proofs.Counts.{sized, size_some}
use Rattle.search.proofs.Leading.{admitted, tested}
use Rattle.search.proofs.tally.Tally.size_to.Goals as goal

module _ (k : Kind) (mode : Mode) (cells query : List ℕ) (b : ℕ) where
  -- the size under a candidate
  size_under : (by : ℤ) → Candidate k mode cells (note query 1) b by → triples k by cells query ≡ sized k mode cells query b
  size_under by h = size_some k mode cells query (ltb 0 (count_by (eqb b) cells)) (k.interval (note query 1) b) by (triples k by cells query) (lt-ltb 0 (count_by (eqb b) cells) h.held) h.leads (sym (cond-true (admits mode by) (triples k by cells query) 0 (tested mode by h.admitted)))

  -- and where there is no candidate
  size_without : ((by : ℤ) → Candidate k mode cells (note query 1) b by → ⊥) → 0 ≡ sized k mode cells query b
  size_without none = held (ltb 0 (count_by (eqb b) cells)) refl
    where
      admits_not : (by : ℤ) (v : Bool) → 0 < count_by (eqb b) cells → k.interval (note query 1) b ≡ Some by → admits mode by ≡ v → 0 ≡ cond v (triples k by cells query) 0
      admits_not by true there leads e = absurd (none by (record { leads = leads; admitted = admitted mode by e; held = there }))
      admits_not by false there leads e = refl

      told : (o : Option ℤ) → 0 < count_by (eqb b) cells → k.interval (note query 1) b ≡ o → 0 ≡ candidate_size k mode cells query o
      told None there e = refl
      told (Some by) there e = admits_not by (admits mode by) there e refl

      held : (v : Bool) → ltb 0 (count_by (eqb b) cells) ≡ v → 0 ≡ cond v (candidate_size k mode cells query (k.interval (note query 1) b)) 0
      held true e = told (k.interval (note query 1) b) (ltb-true 0 (count_by (eqb b) cells) e) refl
      held false e = refl

pub returns-in-Some : goal.returns-in-Some
returns-in-Some g c =
    let k = g.S.Symbol.kind in
    let cells = map g.S.Symbol.byte c.args.self.now.cells.now in
    let query = map g.S.Symbol.byte c.args.query.now.notes.now in
    let fit : SFits w32 c.in-Some.by = search rules in
    c.triples.ensures ∙ ap (λ z. triples k z cells query) (to_z-of_z w32 c.in-Some.by fit) ∙ size_under k c.args.mode cells query c.args.b c.in-Some.by c.in-Some.ensures

pub returns-in-None : goal.returns-in-None
returns-in-None g c = size_without g.S.Symbol.kind c.args.mode (map g.S.Symbol.byte c.args.self.now.cells.now) (map g.S.Symbol.byte c.args.query.now.notes.now) c.args.b c.in-None.ensures
