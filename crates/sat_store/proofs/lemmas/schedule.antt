pub mod LubyLemmas
