-- All that a text's answer computes with, for one `unfolding` line.
use Rattle.spec.specs.Rule.{fields_of_node}
use Rattle.grammar.specs.Typed.{opened}
use Rattle.grammar.specs.Bytes.{leading_from}
use Rattle.grammar.specs.Scan.{kind_of, starting_with, move, stuck_from, question16, ended, tokens_from, tokens_of}
use Rattle.grammar.specs.Reading.{unwound, read, read_all, whole, formula_of}
use Rattle.grammar.specs.Nodes.{size, nodes_from, word_of_node, rule_words}
use Rattle.grammar.specs.Texting.{question17, writing, texting}

unfoldable pub texts : Unit {0}
unfolding fields_of_node opened leading_from kind_of starting_with move stuck_from question16 ended tokens_from tokens_of unwound read read_all whole formula_of size nodes_from word_of_node rule_words question17 writing texting
texts = tt
