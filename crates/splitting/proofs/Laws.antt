-- The laws of gaps and splittings, gathered.
use Rattle.std.proofs.Common.{length, refl}
use Rattle.price.specs.Pricing.{Pricing}
use Rattle.splitting.specs.Laws.{Gaps, TwoViews, SplittingsKept, SplittingsBounded, LeastRests}
use Rattle.splitting.proofs.Gaps.{gap_at_most, gap_through, gap_appended}
use Rattle.splitting.proofs.Rests.{rest_of_splits, splits_of_rest}
use Rattle.splitting.proofs.Kept.{splits_grown, price_grown, moved_shift, splits_moved, splits_back}
use Rattle.splitting.proofs.Depths.{gaps_small, price_depth}
use Rattle.splitting.proofs.Least.{least_unmatched, least_last, least_step}

pub gaps_lawful : Gaps
gaps_lawful = record { at_most = gap_at_most; through = gap_through; appended = gap_appended }

module _ (m : Pricing) where
  pub two_views : TwoViews m
  two_views = record { note_by_note = rest_of_splits m; piece_by_piece = λ ask c i j t a r. splits_of_rest m ask c r }

  pub splittings_kept : SplittingsKept m
  splittings_kept ask laws =
      record {
        appended = λ more limit wide c. splits_grown ask laws more c limit wide;
        appended_price = λ more c. price_grown ask laws more c m;
        transposed_shift = moved_shift ask laws;
        transposed = splits_moved ask laws;
        transposed_back = splits_back ask laws;
      }

  pub splittings_bounded : SplittingsBounded m
  splittings_bounded prices ask covered = record { gaps_small = gaps_small ask covered; depth_small = price_depth m prices ask covered }

  pub least_rests : LeastRests m
  least_rests prices ask covered c =
      record {
        unmatched = least_unmatched m prices ask covered c;
        last_note = λ j t. least_last m prices ask covered c (length ask.query) j t refl;
        earlier_note = least_step m prices ask covered c;
      }
