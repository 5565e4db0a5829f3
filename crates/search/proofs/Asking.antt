-- The question that is asked of a grid.
use Rattle.std.proofs.Common.{◌≡◌, ℕ, ◌≤◌, Bool, true, false, ◌&&◌, leb, List, map, length, Some, None, sym, refl, ap, ◌∙◌, arith}
use Rattle.std.proofs.lemmas.Nat.{mul-le}
use Rattle.std.proofs.lemmas.List.{length-map}
use Rattle.std.proofs.lemmas.Bool.{leb-true, and_parts}
use Rattle.notation.specs.Kind.{Kind, Lawful as KindLaws}
use Rattle.notation.specs.declared.mode.Mode.{Mode}
use Rattle.book.specs.Refusals.{refusal, unless}
use Rattle.book.specs.declared.grid.Grid.{Grid}
use Rattle.book.specs.declared.refusal.Layer.TheVariants.{Question as of-question}
use Rattle.splitting.specs.Score.{Question}
use Rattle.search.specs.Candidates.{Asked}
use Rattle.search.specs.Questions.{grid_question, question_refusal}
use Rattle.search.specs.Queries.{list_refusal}
use Rattle.search.specs.Workspace.{workspace, workspace_of}
use Rattle.search.proofs.Columns.{length_columns, symbols_of_columns}
use Rattle.search.proofs.Refusing.{Sound, listed, then_kept, then_none, unless_none}

pub few_symbols : {S : Type 0} (grid : Grid S) → length grid.symbols.now ≤ 65536
few_symbols grid = omega (arith, grid.whole, mul-le grid.columns grid.tracks 4096 16 grid.few_columns grid.few_tracks)

module _ {S : Type 0} (k : Kind) (byte : S → ℕ) (grid : Grid S) (mode : Mode) (query : List S) where
  pub same_workspace : workspace k mode (map byte grid.symbols.now) (map byte query) ≡ workspace_of (grid_question k byte grid 0 mode query)
  same_workspace = ap (λ z. workspace k mode z (map byte query)) (sym (symbols_of_columns grid.tracks grid.columns (map byte grid.symbols.now) (length-map grid.symbols.now byte ∙ grid.whole)))

  -- of notes that are those of the query
  pub asked : KindLaws k → (notes : List S) → notes ≡ query → length notes ≤ 64 → (limit : ℕ) → Asked (grid_question k byte grid limit mode query) (map byte grid.symbols.now) grid.tracks k mode limit (map byte notes)
  asked laws notes are short limit =
      record {
        posed =
            record {
              columns = grid.columns;
              score_is = refl;
              size_is = length-map grid.symbols.now byte ∙ grid.whole;
              covered = record { kind_laws = laws; few = omega (arith, length_columns grid.tracks grid.columns (map byte grid.symbols.now), grid.few_columns); short = omega (arith, length-map query byte, ap length are) };
            };
        kind_is = refl;
        mode_is = refl;
        limit_is = refl;
        query_is = ap (map byte) (sym are);
      }

-- the rule of a question whose query and list are granted, by what its sheets have room for
module _ (ask : Question) (list a b c : ℕ) (granted : list_refusal ask.query list ≡ None) (size : ℕ) (size_is : size ≡ workspace_of ask) (hold : Bool) (holds : hold ≡ (leb size a && leb size b && leb size c)) where
  rule_is : question_refusal ask list a b c ≡ unless hold (refusal 20 size of-question) None
  rule_is =
      let tests : (leb (workspace_of ask) a && leb (workspace_of ask) b && leb (workspace_of ask) c) ≡ hold = (λ j. leb (sym size_is j) a && leb (sym size_is j) b && leb (sym size_is j) c) ∙ sym holds in
      then_kept (list_refusal ask.query list) _ granted ∙ (λ j. unless (tests j) (refusal 20 (sym size_is j) of-question) None)

  pub sheets_kept : hold ≡ true → question_refusal ask list a b c ≡ None
  sheets_kept e = rule_is ∙ ap (λ z. unless z (refusal 20 size of-question) None) e

  pub sheets_short : hold ≡ false → question_refusal ask list a b c ≡ Some (refusal 20 size of-question)
  sheets_short e = rule_is ∙ ap (λ z. unless z (refusal 20 size of-question) None) e

-- what a question that is not refused has room for
pub granted : (ask : Question) (list a b c : ℕ) → question_refusal ask list a b c ≡ None → (Sound ask.query × (length ask.query ≤ list)) × (workspace_of ask ≤ a) × (workspace_of ask ≤ b) × (workspace_of ask ≤ c)
granted ask list a b c e =
    let size = workspace_of ask in
    let rules = then_none (list_refusal ask.query list) _ e in
    let all = and_parts (leb size a && leb size b) (leb size c) (unless_none (leb size a && leb size b && leb size c) (refusal 20 size of-question) None rules.1).0 in
    let two = and_parts (leb size a) (leb size b) all.0 in
    (listed ask.query list rules.0, leb-true size a two.0, leb-true size b two.1, leb-true size c all.1)
