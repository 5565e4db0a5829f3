-- The nine examples, each tested against every way.
use Rattle.std.proofs.Common.{refl}
use Rattle.notation.specs.Laws.{pitch_lawful, class_lawful, stroke_lawful}
use Rattle.splitting.specs.Splitting.{gap}
use Rattle.splitting.specs.Examples.{Examples, FirstChargedLast}
use Rattle.splitting.proofs.Decide.{no_way, right}

first_charged_last : FirstChargedLast
unfolding gap
first_charged_last = refl

pub examples : Examples
unfolding gap
examples =
    record {
      handed_over = (right _ pitch_lawful _ _ _).shows tt;
      over_a_column = (right _ pitch_lawful _ _ _).shows tt;
      over_no_column = (no_way _ pitch_lawful _).shows tt;
      same_column = (no_way _ pitch_lawful _).shows tt;
      one_note = (right _ pitch_lawful _ _ _).shows tt;
      one_note_untransposed = (no_way _ pitch_lawful _).shows tt;
      octave = (right _ pitch_lawful _ _ _).shows tt;
      round = (right _ class_lawful _ _ _).shows tt;
      empty = (no_way _ pitch_lawful _).shows tt;
      strokes = (no_way _ stroke_lawful _).shows tt;
      no_silence = (right _ pitch_lawful _ _ _).shows tt;
      charged_last = first_charged_last;
    }
