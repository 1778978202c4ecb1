use Rattle.std.proofs.Common.{◌≡◌, ◌≤◌, length, drop, get_or}
use Rattle.numbers.specs.Texts.{value}
use Rattle.figures.specs.Lines.{all_digits}
use Rattle.figures.specs.Inner.{held}
use Rattle.figures.proofs.words.number.Given as goal

abbrev pub invariant-loop-c : goal.invariant-loop-c
invariant-loop-c l = record {
  within : l.value ≤ 4294967296;
  no_leading_zero : get_or l.word 0 0 ≡ 48 → length l.word ≤ 1;
  digits : all_digits (drop l.c-index l.word) ≡ all_digits l.word;
  value : held (value l.value (drop l.c-index l.word)) ≡ held (value 0 l.word);
}
