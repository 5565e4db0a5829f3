-- What each fault tells: its number, its place and its layer.
use Rattle.book.specs.Refusals.{refusal}
use Rattle.book.specs.declared.refusal.Layer.TheVariants.{Query, Question, Transposing}
use Rattle.book.specs.declared.refusal.Refusal.{Refusal}
use Rattle.search.specs.declared.fault.QueryFault.{QueryFault}
use Rattle.search.specs.declared.fault.QueryFault.TheVariants.{Length, Rest}
use Rattle.search.specs.declared.fault.ListFault.{ListFault}
use Rattle.search.specs.declared.fault.ListFault.TheVariants.{OfQuery, ShortList}
use Rattle.search.specs.declared.fault.QuestionFault.{QuestionFault}
use Rattle.search.specs.declared.fault.QuestionFault.TheVariants.{OfList, ShortSheet}
use Rattle.search.specs.declared.fault.TransposeFault.{TransposeFault}
use Rattle.search.specs.declared.fault.TransposeFault.TheVariants.{OfList as TransposeList, NoSymbol}

abbrev pub query_told : QueryFault → Refusal
query_told (Length n) = refusal 17 n Query
query_told (Rest n) = refusal 18 n Query

abbrev pub list_told : ListFault → Refusal
list_told (OfQuery f) = query_told f
list_told (ShortList n) = refusal 19 n Question

abbrev pub question_told : QuestionFault → Refusal
question_told (OfList f) = list_told f
question_told (ShortSheet n) = refusal 20 n Question

abbrev pub transpose_told : TransposeFault → Refusal
transpose_told (TransposeList f) = list_told f
transpose_told (NoSymbol n) = refusal 21 n Transposing
