-- Loop over the news: text so far and spelling of those left are the whole, which fits if those left do. So at the end the text is it.
use Rattle.std.proofs.Common.{◌≡◌, ◌++◌, drop, map}
use Rattle.std.specs.List.{AllByRecursion, flat_map}
use Rattle.ffi_device.specs.AtOnce.{news_output, output_bytes, FitsOutput}
use Rattle.ffi_device.proofs.at_once.write_news.Given as goal

-- what is written and what is left make up the whole
abbrev pub invariant-loop-one : goal.invariant-loop-one
invariant-loop-one l = record {
  whole : l.text.bytes.items ++ flat_map output_bytes (map news_output (drop l.one-index l.news))
      ≡ l.fn.text.bytes.items ++ flat_map output_bytes (map news_output l.news);
  fits : AllByRecursion FitsOutput (map news_output (drop l.one-index l.news))
      → AllByRecursion FitsOutput (map news_output l.news);
}
